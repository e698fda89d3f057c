use Rattle.wit_pool.proofs.Serves.{put_out}
use Rattle.wit_pool.specs.Serving.{shares_of, pushed_of}
use Rattle.wit_pool.proofs.hands.Hands.put.Goals as goal

pub returns : goal.returns
returns g c = put_out c.args.queue.now (shares_of c.args.self) (pushed_of c.args.self) c.args.self c.push_as-pass.result.0 c.args.ticket c.push_as-pass.result.1 c.requires.serves c.push_as-pass.ensures.queue c.push_as-pass.ensures.done c.push_as-pass.ensures.full
