use Rattle.std.proofs.Common.{◌≡◌, ◌+◌, ◌<◌, ◌≤◌, ◌^◌, [], arith}
use Rattle.std.proofs.lemmas.List.Elements.{All-nil}
use Rattle.rv_model.specs.Image.{IsLoadable}
use Rattle.demo_program.specs.Demo.{demo_file}
use Rattle.zk_top.proofs.Demos.{demo_one, demo_some}
use Rattle.zk_top.proofs.laws.one_demo.Goals as goal

pub returns-clause-some : goal.returns-clause-some
returns-clause-some c = λ names number kind size is.
    let loaded = c.demo_runs.ensures.loads number kind size is in
    let halted = c.demo_runs.ensures.halts number kind size loaded.0 is loaded.1 in
    let loadable : IsLoadable loaded.0 = c.loaded_is_loadable.ensures (demo_file number kind size) [] loaded.0 (c.demo_words.ensures.bytes number kind size) (All-nil (λ b. b < 256)) (omega arith) loaded.1 in
    let few : size + 21 < 2 ^ 32 = omega (arith, is.1) in
    demo_some names number kind size loaded.0 (size + 21) halted.0 loaded.1 (c.run_law.ensures loaded.0 4294967295) (omega (arith, is.1)) halted.1 (c.completeness.ensures.accepted loaded.0 (size + 21) halted.0 loadable few halted.1).1

pub returns-clause-one : goal.returns-clause-one
returns-clause-one c = λ names number kind size o p h k. demo_one names number kind size o p (c.one_answer.ensures.one_image (demo_file number kind size) []) h k
