-- `node::reader::entry` meets its contract: a refused page, an index past its end, and an entry of an accepted page,
-- each as `read_entry` has it.
-- Assumes nothing.
use mathlib.Core.List.{List}
use mathlib.Core.Path.{◌≡◌, sym, ap, ◌∙◌}
use Prim.Native.Nat.{ℕ, suc, ◌-◌, ◌≤◌, ◌<◌}
use native.Mathlib.Omega.{arith}
use Rattle.format.specs.Answer.{Answer, afterwards}
use Rattle.format.specs.Bits.{pack}
use Rattle.format.specs.Page.{Entry, check_page, entry_of, key_of, page_refusal, pointer_of, read_entry}
use Rattle.format.specs.Refusals.{refusal_number}
use Rattle.format.specs.declared.refusal.Refusal.{Refusal}
use Rattle.facts.proofs.AcceptedLaws.{
  Accepted,
  accepted-page_refusal,
  read_entry-accepted,
  read_entry-outside,
  read_entry-refused,
}
use Rattle.shape.specs.declared.Header.{Header}
use Rattle.std.specs.Prelude.{Result, Ok, Err, IsErr, IsErrAnd}
use Rattle.shape.specs.Shape.{SizesFit, checked_answer, header_meant}
use Rattle.node.specs.Reader.{entry_answer, key_bytes, pointer_read}
use Rattle.facts.proofs.RefusalLaws.{err_handed}
use Rattle.shape.proofs.CheckedLaws.{checked_accepted, checked_fits, checked_refused}
use Rattle.std.proofs.Common.{rules}
use Rattle.node.proofs.reader.entry.Goals as goal

module _ (p : List ℕ) (c : Result Header Refusal) (e : checked_answer c ≡ check_page p) (i : ℕ) where
  module _ (x : Refusal) (q : c ≡ Err x) where
    is_refused : read_entry p i ≡ Answer.Refused (refusal_number x)
    is_refused =
        let r : (page_refusal p ≡ refusal_number x) × (0 < refusal_number x) =
        checked_refused p (refusal_number x) (sym (ap checked_answer q) ∙ e) in
        let s : refusal_number x ≡ suc (refusal_number x - 1) = omega (arith, r.1) in
        read_entry-refused p i (refusal_number x - 1) (r.0 ∙ s) ∙ ap (λ (n : ℕ). Answer.Refused n) (sym s)

    refused : Answer.Refused (refusal_number x) ≡ pointer_read (read_entry p i)
    unfolding pointer_read
    refused = sym (ap pointer_read is_refused)

    -- what `?` hands on
    handed : (r : Result ℕ Refusal) → IsErr r → IsErrAnd r (λ (y : Refusal). y ≡ x)
        → entry_answer r ≡ pointer_read (read_entry p i)
    handed r u v = ap entry_answer (err_handed r x u v) ∙ refused

    refused-kept : (k : List ℕ) → k ≡ afterwards (read_entry p i) key_bytes k
    unfolding afterwards
    refused-kept k = sym (ap (λ (a : Answer Entry). afterwards a key_bytes k) is_refused)

  module _ (h : Header) (q : c ≡ Ok h) where
    answered : Answer.Value (header_meant h) ≡ check_page p
    answered = sym (ap checked_answer q) ∙ e

    fits : SizesFit p h
    fits = checked_fits p h answered

    good : Accepted p
    good = accepted-page_refusal p (checked_accepted p (header_meant h) answered)

    module _ (o : h.n ≤ i) where
      is_outside : read_entry p i ≡ Answer.Refused 16
      is_outside = read_entry-outside p i good (omega (arith, fits.n_is))

      outside : Answer.Refused 16 ≡ pointer_read (read_entry p i)
      unfolding pointer_read
      outside = sym (ap pointer_read is_outside)

      outside_kept : (k : List ℕ) → k ≡ afterwards (read_entry p i) key_bytes k
      unfolding afterwards
      outside_kept k = sym (ap (λ (a : Answer Entry). afterwards a key_bytes k) is_outside)

    module _ (o : i < h.n) where
      is_read : read_entry p i ≡ Answer.Value (entry_of p i)
      is_read = read_entry-accepted p i good (omega (arith, fits.n_is))

      pointer : (x : ℕ) → x ≡ pointer_of p i → Answer.Value x ≡ pointer_read (read_entry p i)
      unfolding pointer_read entry_of
      pointer x ex = ap (λ (n : ℕ). Answer.Value n) ex ∙ sym (ap pointer_read is_read)

      key : (was k : List ℕ) → k ≡ pack 32 (key_of p i) → k ≡ afterwards (read_entry p i) key_bytes was
      unfolding afterwards key_bytes entry_of
      key was k ek = ek ∙ sym (ap (λ (a : Answer Entry). afterwards a key_bytes was) is_read)

ruleset laws = (handed, refused, refused-kept, fits, outside, outside_kept, pointer, key)

pub returns-in_err-header-clause-answer : goal.returns-in_err-header-clause-answer
returns-in_err-header-clause-answer c = search (rules, laws)

pub returns-in_err-header-clause-written : goal.returns-in_err-header-clause-written
returns-in_err-header-clause-written c = refused-kept _ _ c.check.ensures.answer _ _ c.in_err-header.was _

pub returns-then-header-index-clause-answer : goal.returns-then-header-index-clause-answer
returns-then-header-index-clause-answer c =
    outside _ _ c.check.ensures.answer _ _ c.in_ok-header.was c.if-header-index.true

pub returns-then-header-index-clause-written : goal.returns-then-header-index-clause-written
returns-then-header-index-clause-written c =
    outside_kept _ _ c.check.ensures.answer _ _ c.in_ok-header.was c.if-header-index.true _

pub invariant_of-sized : goal.invariant_of-sized
invariant_of-sized c = record { fits = fits _ _ c.check.ensures.answer c.args.index _ c.in_ok-header.was }

pub returns-clause-answer : goal.returns-clause-answer
returns-clause-answer c =
    pointer _ _ c.check.ensures.answer _ _ c.in_ok-header.was c.if-header-index.false _ c.copy_entry.ensures.answer

pub returns-clause-written : goal.returns-clause-written
returns-clause-written c =
    key _ _ c.check.ensures.answer _ _ c.in_ok-header.was c.if-header-index.false _ _ c.copy_entry.ensures.written
