-- `builder::page::put_page` meets its contract: because the header and the parts that are lent on make up the page.
-- Assumes nothing.
use native.Mathlib.Omega.{arith}
use Rattle.builder.proofs.page.put_page.Goals as goal
use Rattle.builder.proofs.JoinLaws.{part_small, part_room, page_is}

pub put_bits-requires : goal.put_bits-requires
put_bits-requires c =
    let r = c.args.rows.now in
    let written = c.put_offsets.ensures.written in (
      part_small c.put_header.new.out _ r.table.now r.n r.m r.q written r.few (omega arith),
      part_room c.put_header.new.out _ r.table.now r.n r.m r.q written r.few (omega arith) r.fits,
    )

pub returns : goal.returns
returns c = record {
  written =
      let r = c.args.rows.now in
      page_is c.put_header.new.out _ r.table.now r.n r.m r.q c.put_offsets.ensures.written r.few (omega arith) _ _ _ _
      c.args.number c.requires c.put_header.ensures.written c.put_bits.ensures.written c.put_pointers.ensures.written;
}
