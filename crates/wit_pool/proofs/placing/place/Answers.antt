use Rattle.std.proofs.Common.{◌∙◌, ◌++◌, List, ap}
use Rattle.gold.specs.declared.instances.Table.{Table}
use Rattle.zk_layout.specs.Air.{air_number}
use Rattle.zk_layout.specs.declared.air.Air.TheVariants.{Main}
use Rattle.wit_pool.specs.Placed.{of_number}
use Rattle.wit_pool.proofs.Places.{placed}
use Rattle.wit_pool.proofs.placing.place.Goals as goal

pub returns : goal.returns
returns c = λ image n are mem.
    placed image n c.args.public.now c.sorted-made.result.items c.in_ok-made.made.items c.in_ok-made-2.made.items c.in_ok-made-3.made.items c.in_ok-made-4.made.items c.args.mem.items _ _ _ _ _ _ _ c.in_ok-out_table.field-0 (c.sorted-made.ensures image n are)
    c.in_ok-made.ensures.rest c.in_ok-made-2.ensures.rest c.in_ok-made-3.ensures.rest c.in_ok-made-4.ensures.rest mem c.in_ok-out_table.ensures (c.in_ok-made.ensures.here ∙ ap (λ (l : List Table). l ++ of_number (air_number Main) c.sorted-made.result.items) c.new-tables.ensures) c.in_ok-push_all.ensures c.in_ok-made-2.ensures.here c.in_ok-made-3.ensures.here c.in_ok-made-4.ensures.here
    c.in_ok-_none.ensures.here c.in_ok-push.ensures.ok
