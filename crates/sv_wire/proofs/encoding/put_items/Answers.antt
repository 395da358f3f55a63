-- What is proved by hand of `put_items`.
use Rattle.sv_wire.specs.Spelling.{item_bytes}
use Rattle.sv_wire.proofs.Append.{written_more}
use Rattle.sv_wire.proofs.encoding.put_items.Goals as goal

pub loop-item-preserved : goal.loop-item-preserved
loop-item-preserved c = written_more item_bytes c.args.items.now c.loop-item.item-index c.item-item.result c.item-item.result c.args.out.now.items c.loop-item.out.items c.put_item.new.out.items c.loop-item-test.true c.item-item.is c.loop-item.invariant c.in_ok-put_item.ensures
