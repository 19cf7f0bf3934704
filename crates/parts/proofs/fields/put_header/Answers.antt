-- `parts::fields::put_header` meets its contract: because it goes by the same test as `with_header`, and the four
-- numbers go one behind the other.
-- Assumes nothing.
use Rattle.std.proofs.Common.{rules}
use Rattle.parts.proofs.fields.put_header.Goals as goal
use Rattle.parts.proofs.NumberLaws.{header_in, header_out}

ruleset laws = (header_in, header_out)

pub returns-then-out-lt-HEADER_SIZE : goal.returns-then-out-lt-HEADER_SIZE
returns-then-out-lt-HEADER_SIZE c = search (rules, laws)

pub returns : goal.returns
returns c = search (rules, laws)
