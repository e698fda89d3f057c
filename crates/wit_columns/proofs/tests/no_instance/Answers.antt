use Rattle.wit_columns.proofs.Small.{two_shaped}
use Rattle.wit_columns.proofs.tests.no_instance.Goals as goal

pub new-requires : goal.new-requires
new-requires g c = two_shaped c.in_ok-shape.shape c.in_ok-witness.witness c.in_ok-shape.ensures c.in_ok-witness.ensures
