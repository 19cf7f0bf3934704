-- `view::read_at` meets its contract: because 32 bytes that the reader wrote hold the entry's key, which has 256 bits.
-- Assumes nothing.
use mathlib.Core.List.{List, [], ◌∷◌, ◌++◌}
use mathlib.Core.Path.{◌≡◌, sym, ap, ◌∙◌}
use Prim.Native.Nat.{ℕ, zero, suc}
use native.Mathlib.Omega.{arith}
use lib.Dec.{leb}
use Rattle.format.specs.Answer.{Answer, afterwards, first, refuse, refusal_of, unless}
use Rattle.format.specs.Bits.{bits_of}
use Rattle.format.specs.Key.{IsKey}
use Rattle.format.specs.Page.{Entry, count, entry_of, page_tests, read_entry}
use Rattle.format.specs.Refusals.{refusal_number}
use Rattle.format.specs.declared.refusal.Refusal.{Refusal}
use Rattle.facts.proofs.BitsLaws.{bits_of-pack, fill_exact}
use Rattle.facts.proofs.PageLaws.{key_of-key}
use Rattle.facts.proofs.RefusalLaws.{err_handed}
use Rattle.view.specs.Seen.{seen_answer}
use Rattle.keys.specs.Keys.{key_bits}
use Rattle.keys.specs.declared.Key.{Key}
use Rattle.std.specs.Prelude.{Result, Ok, Err, IsErr, IsErrAnd}
use Rattle.node.specs.Reader.{entry_answer, key_bytes, pointer_read}
use Rattle.view.proofs.read_at.Goals as goal

-- 1 for a refusal.
abbrev tag : Answer ℕ → ℕ
tag (Answer.Refused r) = 1
tag (Answer.Value x) = 0

differ : ◌≡◌ {A = ℕ} 1 0 → ⊥
differ q = omega arith

-- The pointer of an answer; 0 of a refusal.
abbrev pointer_in : Answer ℕ → ℕ
pointer_in (Answer.Refused r) = 0
pointer_in (Answer.Value x) = x

-- The bits of a key that was packed are that key.
key_back : (e : Entry) → IsKey e.key → bits_of (key_bytes e) ≡ e.key
unfolding key_bytes
key_back e k = bits_of-pack 32 e.key k.bits ∙ fill_exact e.key 256 k.size

module _ (e : Entry) (is : IsKey e.key) where
  -- A pointer was read: the answer is a value, and the bytes are its key's.
  value : (n x : ℕ) (was bytes : List ℕ) (k : Key) → Answer.Value x ≡ pointer_read (unless n e)
      → bytes ≡ afterwards (unless n e) key_bytes was → key_bits k ≡ bits_of bytes
      → Answer.Value (record { key = key_bits k; pointer = x }) ≡ unless n e
  unfolding pointer_read unless afterwards
  value zero x was bytes k ex eb ek =
      let p : x ≡ e.pointer = ap pointer_in ex in
      let b : key_bits k ≡ e.key = ek ∙ ap bits_of eb ∙ key_back e is in
      ap (λ (l : List ℕ). Answer.Value (record { key = l; pointer = x })) b
      ∙ ap (λ (y : ℕ). Answer.Value (record { key = e.key; pointer = y })) p
  value (suc n) x was bytes k ex eb ek = absurd (differ (sym (ap tag ex)))

-- A refusal of the reader is the answer's.
refusal : (a : Answer Entry) (r : ℕ) → Answer.Refused r ≡ pointer_read a → Answer.Refused r ≡ a
unfolding pointer_read refusal_of
refusal (Answer.Refused n) r q = ap (λ (k : ℕ). Answer.Refused k) (ap refusal_of q)
refusal (Answer.Value e) r q = absurd (differ (ap tag q))

module _ (p : List ℕ) (i : ℕ) (a : Result ℕ Refusal) (ea : entry_answer a ≡ pointer_read (read_entry p i)) where
  refused : (r : Refusal) → a ≡ Err r → Answer.Refused (refusal_number r) ≡ read_entry p i
  refused r q = refusal (read_entry p i) (refusal_number r) (sym (ap entry_answer q) ∙ ea)

  -- what `?` hands on
  handed : (r : Refusal) → a ≡ Err r → (b : Result (Key × ℕ) Refusal) → IsErr b → IsErrAnd b (λ (y : Refusal). y ≡ r)
      → seen_answer b ≡ read_entry p i
  handed r q b u v = ap seen_answer (err_handed b r u v) ∙ refused r q

  read : (x : ℕ) → a ≡ Ok x → (was bytes : List ℕ) (k : Key) → bytes ≡ afterwards (read_entry p i) key_bytes was
      → key_bits k ≡ bits_of bytes → Answer.Value (record { key = key_bits k; pointer = x }) ≡ read_entry p i
  unfolding read_entry
  read x q was bytes k eb ek =
      value (entry_of p i) (key_of-key p i) (first (page_tests p ++ refuse 16 (leb (count p) i) ∷ [])) x was bytes k
      (sym (ap entry_answer q) ∙ ea) eb ek

pub returns-in_err-pointer : goal.returns-in_err-pointer
returns-in_err-pointer c =
    record {
      answer =
          handed _ _ _ c.entry.ensures.answer _ c.in_err-pointer.was _ c.from_residual.ensures.0 c.from_residual.ensures.1;
    }

pub returns : goal.returns
returns c =
    record {
      answer =
          read _ _ _ c.entry.ensures.answer _ c.in_ok-pointer.was _ _ _ c.entry.ensures.written c.from_bytes.ensures.answer;
    }
