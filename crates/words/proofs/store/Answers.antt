-- `words::store` meets its contract: the word's bytes are std's (`word_bytes-is`), and a part is replaced by them.
-- Assumes nothing.
use Rattle.std.proofs.Common.{arith, ◌∙◌, sym, ap}
use Rattle.std.proofs.lemmas.Slice.{put_mid-paste}
use Rattle.words.specs.Words.{word_bytes}
use Rattle.words.proofs.WordsLaws.{word_bytes-is, length-word_bytes, paste-word_bytes, with_word_out}
use Rattle.words.proofs.store.Goals as goal

pub returns-then-i-saturating_sub : goal.returns-then-i-saturating_sub
returns-then-i-saturating_sub c =
    let x = c.args.x in
    record {
      written =
          put_mid-paste c.args.i _ c.args.s.now _ _ 8 (c.copy_from_slice.ensures.after ∙ c.to_be_bytes.ensures ∙ word_bytes-is _ ∙ ap word_bytes (omega arith))
          (omega arith) (omega (arith, length-word_bytes x))
          ∙ paste-word_bytes _ _ x (omega arith);
    }

pub returns-else-i-saturating_sub : goal.returns-else-i-saturating_sub
returns-else-i-saturating_sub c = record { written = sym (with_word_out _ _ _ (omega arith)) }
