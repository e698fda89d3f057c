use Rattle.std.proofs.Common.{ap, subst}
use Rattle.std.proofs.lemmas.Result.{err_from_is_err_and}
use Rattle.rv_model.specs.Image.{Img}
use Rattle.tab_file.specs.declared.fault.TabErr.{TabErr}
use Rattle.tab_file.specs.Front.{whole_tables, witness_of}
use Rattle.verdict.specs.Judged.{IsJudged}
use Rattle.file_verdict.specs.Standing.{sizes_in, the_shape}
use Rattle.file_verdict.proofs.Steps.{all_at_end, run_at_end, some_run_at_end}
use Rattle.file_verdict.proofs.judging.FileVerdict.finish.Goals as goal

pub finish-requires : goal.finish-requires
finish-requires c =
    let r = c.requires in
    let bytes = r.bytes in
    let reads = c.in_ok-end.ensures.reads the_shape bytes r.stands.reader in
    let all = c.front_laws.ensures.all bytes the_shape (witness_of bytes the_shape) reads in
    record {
      image = c.args.self.image;
      sizes = sizes_in bytes;
      tables = whole_tables bytes the_shape;
      stands = (run_at_end c.args.self r.image bytes c.in-Some.run' c.in-Some.is r.stands all).stands;
      all = all_at_end bytes all (c.file_laws.ensures.all (witness_of bytes the_shape) reads.shaped);
    }

pub unreachable-requires : goal.unreachable-requires
unreachable-requires c =
    let r = c.requires in
    let reads = c.in_ok-end.ensures.reads the_shape r.bytes r.stands.reader in
    some_run_at_end c.args.self r.image r.bytes c.in-None.is r.stands (c.front_laws.ensures.all r.bytes the_shape (witness_of r.bytes the_shape) reads)

pub returns-clause-judged : goal.returns-clause-judged
returns-clause-judged c = λ image bytes s.
    let reads = c.in_ok-end.ensures.reads the_shape bytes s.reader in
    let all = c.front_laws.ensures.all bytes the_shape (witness_of bytes the_shape) reads in
    let run = run_at_end c.args.self image bytes c.in-Some.run' c.in-Some.is s all in
    let fin = c.in_ok-judgement-in-Some.ensures c.args.self.image (sizes_in bytes) (whole_tables bytes the_shape) run.stands (all_at_end bytes all (c.file_laws.ensures.all (witness_of bytes the_shape) reads.shaped)) in
    (witness_of bytes the_shape, reads, subst (λ (i : Img). IsJudged i (witness_of bytes the_shape) c.in_ok-judgement-in-Some.judgement) s.image_is fin)

pub returns-in_err-judgement-in-Some-clause-fails : goal.returns-in_err-judgement-in-Some-clause-fails
returns-in_err-judgement-in-Some-clause-fails c =
    let p = err_from_is_err_and c.from_residual-in_err-judgement-in-Some.result c.from_residual-in_err-judgement-in-Some.ensures.1 in
    rw p.1 (λ other image bytes s. absurd (other (ap (λ (e : TabErr). e.kind) p.2)))
