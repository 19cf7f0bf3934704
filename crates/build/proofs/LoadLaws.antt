-- Laws of a base that was loaded: what it then tells (`Held`), and what a refused one does.
-- Assumes nothing.
use mathlib.Core.Bool.{true}
use mathlib.Core.List.{List, [], ◌∷◌}
use mathlib.Core.Logic.{inl, inr}
use mathlib.Core.Path.{◌≡◌, refl, sym, ap, ap₂, subst, ◌∙◌}
use Prim.Native.Nat.{ℕ, ◌≤◌, ◌<◌}
use native.Mathlib.Nat.{not-suc-le-zero}
use native.Mathlib.Omega.{arith}
use lib.ListN.{length}
use Rattle.format.specs.Answer.{Answer, first}
use Rattle.format.specs.Bits.{AllBelow}
use Rattle.format.specs.Build.{base_tests}
use Rattle.format.specs.Edit.{ascending}
use Rattle.format.specs.Page.{Sound, check_page, entries, page_refusal}
use Rattle.format.specs.Refusals.{refusal_number}
use Rattle.facts.proofs.AcceptedLaws.{accepted-page_refusal, entries-ascending}
use Rattle.facts.proofs.PageLaws.{entries_sound}
use Rattle.shape.specs.declared.Header.{Header}
use Rattle.std.specs.Prelude.{Result, Ok, Err}
use Rattle.format.specs.declared.refusal.Refusal.{Refusal}
use Rattle.shape.specs.Shape.{SizesFit, checked_answer, header_meant}
use Rattle.node.specs.Reader.{loaded}
use Rattle.shape.proofs.CheckedLaws.{checked_accepted, checked_fits, checked_refused}
use Rattle.node.proofs.LoadedLaws.{length-loaded, loaded-rows}
use Rattle.rows.specs.Rows.{rows}
use Rattle.rows.specs.declared.table.Row.{Row}
use Rattle.build.specs.Built.{BaseKnown, Held}

-- ---- no base

entries_none : entries [] ≡ []
unfolding entries
entries_none = refl

rows_none : (t : List Row) → rows 0 t ≡ []
unfolding rows
rows_none t = refl

ascending-none : ascending [] ≡ true
unfolding ascending
ascending-none = refl

sound_none : Sound []
unfolding Sound
sound_none = tt

held_nil : (t : List Row) → length t ≡ 682
    → Held [] (record { number = 0; n = 0; m = 0; q = 0; bits = 0 }) t
held_nil t l = record {
  given = inl refl;
  size = l;
  few = omega arith;
  held = rows_none t ∙ sym entries_none;
  sound = subst Sound (sym entries_none) sound_none;
  rising = ap ascending entries_none ∙ ascending-none;
  page = λ h. absurd (omega arith);
}

-- there is no base
pub no_base : (base : List ℕ) (t : List Row) → length base ≡ 0 → length t ≡ 682
    → Held base (record { number = 0; n = 0; m = 0; q = 0; bits = 0 }) t
no_base [] t e l = held_nil t l
no_base (x ∷ xs) t e l = absurd (omega arith)

-- ---- a base

first_base : (base : List ℕ) (r : ℕ) → 1 ≤ length base → page_refusal base ≡ r → first (base_tests base) ≡ r
unfolding base_tests page_refusal
first_base [] r h e = absurd (not-suc-le-zero h)
first_base (x ∷ xs) r h e = e

held_page : (base : List ℕ) (t u : List Row) (h : Header) → AllBelow 256 base → length t ≡ 682
    → Answer.Value (header_meant h) ≡ check_page base
    → u ≡ loaded base t
    → Held base h u
held_page base t u h b l e eu =
    let f : SizesFit base h = checked_fits base h e in
    let ok : page_refusal base ≡ 0 = checked_accepted base (header_meant h) e in
    record {
      given = inr ok;
      size = ap length eu ∙ length-loaded base t ∙ l;
      few = f.entries_fit;
      held = ap₂ rows f.n_is eu ∙ loaded-rows base t (header_meant h) e (omega (arith, f.entries_fit, f.n_is, l));
      sound = entries_sound base b;
      rising = entries-ascending base (accepted-page_refusal base ok);
      page = λ m. (ok, f.n_is, f.m_is, f.q_is);
    }

-- what a loaded base tells
pub base_known : (base : List ℕ) (t u : List Row) (r : Result Header Refusal) → 1 ≤ length base → AllBelow 256 base → length t ≡ 682
    → checked_answer r ≡ check_page base
    → u ≡ loaded base t
    → BaseKnown base r u
base_known base t u (Ok h) one b l e eu = held_page base t u h b l e eu
base_known base t u (Err r) one b l e eu =
    let k : (page_refusal base ≡ refusal_number r) × (0 < refusal_number r) = checked_refused base (refusal_number r) e in
    (first_base base (refusal_number r) one k.0, k.1)
