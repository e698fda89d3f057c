use Rattle.wit_columns.proofs.Small.{three_shaped}
use Rattle.wit_columns.proofs.tests.two_and_one_instance.Goals as goal

pub new-requires : goal.new-requires
new-requires g c = three_shaped c.in_ok-shape.shape c.in_ok-witness.witness c.in_ok-shape.ensures c.in_ok-witness.ensures
