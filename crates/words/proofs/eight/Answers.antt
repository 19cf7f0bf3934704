-- `words::eight` meets its contract: the bits of the word are those of its bytes (`bits_of-eight`).
-- Assumes nothing.
use Rattle.std.proofs.Common.{◌≡◌, ◌+◌, ◌-◌, arith}
use Rattle.words.proofs.WordsLaws.{bits_of-eight}
use Rattle.words.proofs.eight.Goals as goal

pub returns : goal.returns
returns c =
    let chunk = rw c.unwrap.ensures at c.try_into.ensures.1 in
    let n : (c.args.i + 8) - c.args.i ≡ 8 = omega arith in
    record { answer = bits_of-eight c.args.s.now c.args.i (λ k. omega (arith, c.type_inv.s k)) c.unwrap.result _ c.requires (rw n at chunk.same) c.from_be_bytes.ensures }
