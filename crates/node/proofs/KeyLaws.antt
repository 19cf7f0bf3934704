-- Laws of the key of an entry (`key_of` of format's specs/Page.antt), by the numbers that the code has: the first bits of
-- a key that holds the prefix, q if i < m and none else, then the bits of the separator, from where it starts.
-- In order: the prefix; the separator; both.
-- Assumes nothing.
use mathlib.Core.Bool.{Bool, true, false, cond}
use mathlib.Core.List.{List, [], ◌++◌}
use mathlib.Core.Path.{◌≡◌, refl, sym, ap, ap₂, ◌∙◌}
use Prim.Native.Nat.{ℕ, ◌+◌, ◌-◌, ◌*◌, ◌≤◌}
use native.Mathlib.Omega.{arith}
use lib.Dec.{ltb}
use lib.ListN.{length, take, drop}
use lib.Seq.{drop-drop, length-take-le}
use Rattle.format.specs.Bits.{bits_of, fill}
use Rattle.format.specs.Page.{
  body,
  count,
  end_of,
  key_of,
  prefix_length,
  prefix_of,
  separator_of,
  start_of,
  stored_length,
}
use Rattle.facts.proofs.BitsLaws.{fill_exact, take-fill}
use Rattle.facts.proofs.PageLaws.{length-body}
use Rattle.words.proofs.WindowLaws.{drop-bits_of}
use Rattle.keys.specs.declared.Key.{Key}
use Rattle.keys.specs.Keys.{key_bits}
use Rattle.shape.specs.declared.Header.{Header}
use Rattle.shape.specs.Shape.{SizesFit}

module _ (p : List ℕ) (h : Header) (f : SizesFit p h) where
  -- the first q bits of a key that holds the prefix
  prefix-bits : (k : Key) → key_bits k ≡ fill 256 (take (prefix_length p) (body p))
      → take h.q (key_bits k) ≡ take (prefix_length p) (body p)
  prefix-bits k e =
      let q : prefix_length p ≤ 256 = omega (arith, f.q_is, f.prefix) in
      let b : prefix_length p ≤ length (body p) = omega (arith, length-body p, f.n_is, f.entries_fit, f.size) in
      let t : length (take (prefix_length p) (body p)) ≡ prefix_length p = length-take-le (prefix_length p) (body p) b in
      ap₂ take f.q_is e ∙ take-fill (prefix_length p) 256 (take (prefix_length p) (body p)) q
      ∙ fill_exact (take (prefix_length p) (body p)) (prefix_length p) t

  prefix_is : (i x : ℕ) (k : Key) → key_bits k ≡ fill 256 (take (prefix_length p) (body p))
      → x ≡ cond (ltb i h.m) h.q 0
      → take x (key_bits k) ≡ prefix_of p i
  unfolding prefix_of
  prefix_is i x k ek ex = go (ltb i h.m) refl
    where
      go : (t : Bool) → ltb i h.m ≡ t → take x (key_bits k) ≡ prefix_of p i
      go true q =
          ap (λ (n : ℕ). take n (key_bits k)) (ex ∙ ap (λ (b : Bool). cond b h.q 0) q) ∙ prefix-bits k ek
          ∙ sym (ap (λ (b : Bool). cond b (take (prefix_length p) (body p)) []) (ap (ltb i) (sym f.m_is) ∙ q))
      go false q =
          ap (λ (n : ℕ). take n (key_bits k)) (ex ∙ ap (λ (b : Bool). cond b h.q 0) q)
          ∙ sym (ap (λ (b : Bool). cond b (take (prefix_length p) (body p)) []) (ap (ltb i) (sym f.m_is) ∙ q))

  separator_is : (i start end len : ℕ) → start ≡ start_of p i → end ≡ end_of p i → len ≡ end - start
      → take len (drop (8 * (10 + 2 * h.n) + h.q + start) (bits_of p)) ≡ separator_of p i
  unfolding separator_of stored_length body
  separator_is i start end len es ee el =
      let a : 8 * (10 + 2 * h.n) + h.q + start ≡ 8 * (10 + 2 * count p) + (prefix_length p + start_of p i) =
      omega (arith, f.n_is, f.q_is) in
      ap₂ (λ (n k : ℕ). take n (drop k (bits_of p))) (el ∙ ap₂ ◌-◌ ee es) a
      ∙ ap (take (end_of p i - start_of p i))
      (sym (drop-drop (prefix_length p + start_of p i) (8 * (10 + 2 * count p)) (bits_of p))
      ∙ ap (drop (prefix_length p + start_of p i)) (drop-bits_of (10 + 2 * count p) p))

  pub key_of-read : (i start end bit len x : ℕ) (k r : Key)
      → key_bits r ≡ fill 256 (take x (key_bits k) ++ take len (drop bit (bits_of p)))
      → key_bits k ≡ fill 256 (take (prefix_length p) (body p))
      → bit ≡ 8 * (10 + 2 * h.n) + h.q + start → len ≡ end - start
      → start ≡ start_of p i
      → end ≡ end_of p i → x ≡ cond (ltb i h.m) h.q 0
      → key_bits r ≡ key_of p i
  unfolding key_of
  key_of-read i start end bit len x k r er ek eb el es ee ex =
      er
      ∙ ap₂ (λ (u v : List ℕ). fill 256 (u ++ v)) (prefix_is i x k ek ex)
      (ap (λ (b : ℕ). take len (drop b (bits_of p))) eb ∙ separator_is i start end len es ee el)
