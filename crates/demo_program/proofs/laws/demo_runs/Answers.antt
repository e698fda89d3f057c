use Rattle.std.proofs.Common.{subst, ◌≡◌, ◌+◌, []}
use Rattle.rv_model.specs.Image.{Img}
use Rattle.rv_model.specs.Run.{RunsTo}
use Rattle.rv_model.specs.declared.answer.Public.{Public}
use Rattle.demo_program.specs.Demo.{demo_file}
use Rattle.demo_program.proofs.Fetch.{image_of}
use Rattle.demo_program.proofs.Halting.{words, file_loads, halts}
use Rattle.demo_program.proofs.laws.demo_runs.Goals as goal

pub returns-clause-loads : goal.returns-clause-loads
returns-clause-loads c = λ number kind size is. (image_of (words number kind size), file_loads number kind size is)

pub returns-clause-halts : goal.returns-clause-halts
returns-clause-halts c = λ number kind size image is loads.
    let own : Img = image_of (words number kind size) in
    let same : own ≡ image = c.one_answer.ensures.one_image (demo_file number kind size) [] own image (file_loads number kind size is) loads in
    subst (λ (i : Img). (public : Public) × RunsTo i (size + 21) public × (public.exit ≡ 0)) same (halts number kind size c.decoding_law.ensures.only is)
