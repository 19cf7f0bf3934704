-- `bit_copy::bitwise_memcpy` meets its contract: because its two tests are those of the refusal, and past them
-- `copy_inside` copies.
-- Assumes nothing.
use Rattle.std.proofs.Common.{rules, Ok, Err}
use Rattle.bit_copy.proofs.bitwise_memcpy.Goals as goal
use Rattle.bit_copy.proofs.bitwise_memcpy.Goals.{then-not-lies_inside-via-then-not-lies_inside, then-not-lies_inside-via-else-not-lies_inside+then-not-lies_inside-2}
use mathlib.Core.Bool.{Bool, true, false}
use mathlib.Core.List.{List}
use mathlib.Core.Path.{◌≡◌, refl, sym, ap, ◌∙◌}
use Prim.Native.Nat.{ℕ, ◌+◌, ◌*◌, ◌≤◌}
use native.Mathlib.Omega.{arith}
use lib.ListN.{length, get_or}
use mir.Syntax.{w8}
use mir.Val.{Fits}
use Rattle.format.specs.Answer.{refusal_of, afterwards, first, unless}
use Rattle.format.specs.Ranges.{inside, bits_copied, bit_copy}
use Rattle.format.specs.declared.refusal.Refusal.TheVariants.{RangeOutside}
use Rattle.bit_copy.specs.Calls.{Copied}
use Rattle.bit_copy.proofs.RunLaws.{inside-end, moved_none, moved_bytes}

module _ (d : List ℕ) (to : ℕ) (s : List ℕ) (from n : ℕ) (f : Bool) (ef : f ≡ inside (length d) to n) where
  out_dst : f ≡ false → Copied d to s from n (Err RangeOutside) d
  unfolding bit_copy unless first refusal_of afterwards
  out_dst t =
      let p : inside (length d) to n ≡ false = sym ef ∙ t in
      record { answer = rw p; written = rw p }

  room_dst : f ≡ true → (n ≡ 0 → ⊥) → to + n ≤ 8 * length d
  room_dst t z = inside-end (length d) to n (sym ef ∙ t) z

  module _ (tf : f ≡ true) (g : Bool) (eg : g ≡ inside (length s) from n) where
    p : inside (length d) to n ≡ true
    p = sym ef ∙ tf

    out_src : g ≡ false → Copied d to s from n (Err RangeOutside) d
    unfolding bit_copy unless first refusal_of afterwards
    out_src t =
        let q : inside (length s) from n ≡ false = sym eg ∙ t in
        record { answer = rw (p, q); written = rw (p, q) }

    done : g ≡ true → (d' : List ℕ) → d' ≡ bits_copied d to s from n → Copied d to s from n (Ok tt) d'
    unfolding bit_copy unless first refusal_of afterwards
    done t d' e =
        let q : inside (length s) from n ≡ true = sym eg ∙ t in
        record { answer = rw (p, q); written = rw (p, q) e }

    -- no bits: what stands there are bytes, and stay
    none : g ≡ true → n ≡ 0 → ((i : ℕ) → Fits w8 (get_or d i 0)) → Copied d to s from n (Ok tt) d
    none t z b = done t d (rw z (moved_bytes d to s from 0 d (moved_none d to s from) refl b))

    -- a whole run
    copied : g ≡ true → (s' : List ℕ) (f' k l : ℕ) (d' : List ℕ) → s' ≡ s → f' ≡ from → k ≡ 0 → l ≡ n
        → d' ≡ bits_copied d to s' (f' + k) l → Copied d to s from n (Ok tt) d'
    copied t s' f' k l d' es ef ek el e =
        let ez : f' + k ≡ from = omega arith in
        done t d'
        (e ∙ ap (λ (u : List ℕ). bits_copied d to u (f' + k) l) es ∙ ap (λ (j : ℕ). bits_copied d to s j l) ez
        ∙ ap (bits_copied d to s from) el)

ruleset laws = (out_dst, out_src, room_dst, none, copied)

pub returns-then-not-lies_inside : goal.returns-then-not-lies_inside
returns-then-not-lies_inside c =
    elim c.then-not-lies_inside.branch [
      | then-not-lies_inside-via-then-not-lies_inside w ↦ search (rules, laws)
      | then-not-lies_inside-via-else-not-lies_inside+then-not-lies_inside-2 w ↦ search (rules, laws)
    ]

pub returns-then-bits-eq0 : goal.returns-then-bits-eq0
returns-then-bits-eq0 c = search (rules, laws)

pub returns : goal.returns
returns c = search (rules, laws)

pub new-requires : goal.new-requires
new-requires c = search (rules, room_dst)

pub copy_inside-requires : goal.copy_inside-requires
copy_inside-requires c = search (rules, laws)
