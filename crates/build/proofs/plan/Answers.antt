-- `build::plan` meets its contract: because its parts refuse in the order of the refusals 10 to 15, and else leave the new rows,
-- their choice and the undo record.
-- Assumes nothing.
use Rattle.std.proofs.Common.{rules}
use Rattle.build.proofs.plan.Goals as goal
use mathlib.Core.List.{List}
use mathlib.Core.Path.{◌≡◌, sym, ap, subst, ◌∙◌}
use Prim.Native.Nat.{ℕ, ◌≤◌, ◌<◌}
use native.Mathlib.Omega.{arith}
use lib.ListN.{length}
use Rattle.format.specs.Answer.{Answer, first}
use Rattle.format.specs.Normal.{keys}
use Rattle.format.specs.Page.{Entry}
use Rattle.format.specs.Refusals.{refusal_number}
use Rattle.format.specs.declared.refusal.Refusal.{Refusal}
use Rattle.rows.specs.Rows.{rows}
use Rattle.rows.specs.declared.table.Row.{Row}
use Rattle.apply.specs.Apply.{edited_answer, new_count, new_table}
use Rattle.std.specs.Prelude.{Result, Ok, Err, IsErr, IsErrAnd}
use Rattle.facts.proofs.RefusalLaws.{err_handed}
use Rattle.branch_ops.specs.Choice.{choice_answer, chosen_of}
use Rattle.branch_ops.specs.declared.choice.Choice.{Choice}
use Rattle.build.specs.declared.Numbers.{Numbers}
use Rattle.branch_ops.specs.Writer.{record_in}
use Rattle.undo.specs.Walk.{undo_size, walk}
use Rattle.build.specs.Built.{Old, Planned, Planning, change_tests}
use Rattle.build.proofs.PlanLaws.{planned, refused-choice, refused_early, refused_undo}

module _ (n : ℕ) (old : List Row) (rec : List ℕ) (room : ℕ) (x : Result ℕ Refusal) (e : edited_answer x ≡ new_count (rows n old) rec) where
  early_both : (r : Refusal) → x ≡ Err r
      → (first (change_tests (rows n old) rec room) ≡ refusal_number r) × (1 ≤ refusal_number r)
  early_both r q = refused_early (rows n old) rec room (refusal_number r) (sym (ap edited_answer q) ∙ e)

  early : (r : Refusal) → x ≡ Err r → first (change_tests (rows n old) rec room) ≡ refusal_number r
  early r q = (early_both r q).0

  early_number : (r : Refusal) → x ≡ Err r → 1 ≤ refusal_number r
  early_number r q = (early_both r q).1

  module _ (k : ℕ) (q : x ≡ Ok k) (new₀ new : List Row) (en : new ≡ new_table (rows n old) rec new₀) (o : Old n old)
      (size : length new₀ ≡ 682) (y : Result Choice Refusal) (ey : choice_answer y ≡ chosen_of (keys (rows k new))) where
    count : Answer.Value k ≡ new_count (rows n old) rec
    count = sym (ap edited_answer q) ∙ e

    chose : choice_answer y ≡ chosen_of (keys (rows k (new_table (rows n old) rec new₀)))
    chose = ey ∙ ap (λ (t : List Row). chosen_of (keys (rows k t))) en

    no_choice_both : (r : Refusal) → y ≡ Err r
        → (first (change_tests (rows n old) rec room) ≡ refusal_number r) × (1 ≤ refusal_number r)
    no_choice_both r z = refused-choice n old rec new₀ o size k count room (refusal_number r) (sym (ap choice_answer z) ∙ chose)

    no_choice : (r : Refusal) → y ≡ Err r → first (change_tests (rows n old) rec room) ≡ refusal_number r
    no_choice r z = (no_choice_both r z).0

    no_choice-number : (r : Refusal) → y ≡ Err r → 1 ≤ refusal_number r
    no_choice-number r z = (no_choice_both r z).1

    module _ (c : Choice) (z : y ≡ Ok c) (d : List ℕ) (ed : length d ≡ 24704) (len : ℕ)
        (el : len ≡ undo_size d (walk (rows n old) 0 (rows k new))) where
      size_is : len ≡ undo_size d (walk (rows n old) 0 (rows k (new_table (rows n old) rec new₀)))
      size_is = el ∙ ap (λ (t : List Row). undo_size d (walk (rows n old) 0 (rows k t))) en

      no_room : room < len → first (change_tests (rows n old) rec room) ≡ 15
      no_room h =
          (refused_undo n old rec new₀ o size k count room (record { m = c.m; q = c.q; bits = c.bits })
          (sym (ap choice_answer z) ∙ chose) d ed len size_is h).0

      done : (scratch : List ℕ) → scratch ≡ record_in d (walk (rows n old) 0 (rows k new)) → length scratch ≡ length d
          → len ≤ room
          → Planned (rows n old) rec room (record { n = k; m = c.m; q = c.q; bits = c.bits; undo = len }) new scratch
      done scratch es ls h =
          subst (λ (t : List Row). Planned (rows n old) rec room (record { n = k; m = c.m; q = c.q; bits = c.bits; undo = len }) t scratch)
          (sym en)
          (planned n old rec new₀ o size k count room (record { m = c.m; q = c.q; bits = c.bits })
          (sym (ap choice_answer z) ∙ chose) d ed len size_is scratch
          (es ∙ ap (λ (t : List Row). record_in d (walk (rows n old) 0 (rows k t))) en) (ls ∙ ed) h)

-- what `?` hands on
handed : (base : List Entry) (rec : List ℕ) (room : ℕ) (r : Refusal) (v : Result Numbers Refusal) (new : List Row)
    (scratch : List ℕ) → IsErr v → IsErrAnd v (λ (x : Refusal). x ≡ r)
    → (first (change_tests base rec room) ≡ refusal_number r) × (1 ≤ refusal_number r)
    → Planning base rec room v new scratch
handed base rec room r v new scratch a b f =
    subst (λ (w : Result Numbers Refusal). Planning base rec room w new scratch) (sym (err_handed v r a b)) f

pub returns-in_err-k : goal.returns-in_err-k
returns-in_err-k c =
    record {
      known =
          handed _ _ _ _ _ _ _ c.from_residual.ensures.0 c.from_residual.ensures.1
          (early_both _ _ _ _ _ c.edit_rows.ensures.answer _ c.in_err-k.was);
    }

pub returns-in_err-c : goal.returns-in_err-c
returns-in_err-c c =
    record {
      known =
          handed _ _ _ _ _ _ _ c.from_residual-in_err-c.ensures.0 c.from_residual-in_err-c.ensures.1
          (no_choice_both _ _ _ _ _ c.edit_rows.ensures.answer _ c.in_ok-k.was _ _ c.edit_rows.ensures.written
          (search rules) (search rules) _ c.choose.ensures.answer _ c.in_err-c.was);
    }

pub returns-then-room-len : goal.returns-then-room-len
returns-then-room-len c =
    record {
      known = (
        no_room _ _ _ _ _ c.edit_rows.ensures.answer _ c.in_ok-k.was _ _ c.edit_rows.ensures.written (search rules)
            (search rules) _ c.choose.ensures.answer _ c.in_ok-c.was _ (search rules) _ c.write_undo-len.ensures.answer
            c.if-room-len.true,
        omega arith,
      );
    }

pub returns : goal.returns
returns c =
    record {
      known =
          done _ _ _ _ _ c.edit_rows.ensures.answer _ c.in_ok-k.was _ _ c.edit_rows.ensures.written (search rules)
          (search rules) _ c.choose.ensures.answer _ c.in_ok-c.was _ (search rules) _ c.write_undo-len.ensures.answer _
          c.write_undo-len.ensures.written (search rules) c.if-room-len.false;
    }
