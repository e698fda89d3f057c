use Rattle.std.proofs.Common.{◌∙◌, ap, arith}
use Rattle.std.proofs.lemmas.Result.{err_from_is_err_and}
use Rattle.tab_file.specs.declared.fault.TabErr.{TabErr}
use Rattle.tab_file.proofs.Found.{file_taken}
use Rattle.tab_file.proofs.Again.{file_again}
use Rattle.tab_file.proofs.Exclusive.{never_both, memory_alone}
use Rattle.tab_file.proofs.OfFile.{memory_place}
use Rattle.tab_file.proofs.reading.read.Goals as goal

pub returns-clause-reads : goal.returns-clause-reads
returns-clause-reads c = rw c.in_ok-witness.ensures.witness (file_taken c.args.bytes.now c.args.shape.now (λ i. omega (arith, c.type_inv.bytes i)) c.in_ok-witness.ensures.ok)

pub returns-clause-only : goal.returns-clause-only
returns-clause-only c = λ witness reads. c.in_ok-witness.ensures.witness ∙ (file_again c.args.bytes.now c.args.shape.now witness reads).same

pub returns-in_err-witness-clause-only : goal.returns-in_err-witness-clause-only
returns-in_err-witness-clause-only c = λ witness reads.
    let e = c.in_err-witness.field-0.0 in
    let q = err_from_is_err_and c.from_residual.result c.from_residual.ensures.1 in
    rw (q.1, q.2)
    (memory_alone e.kind (λ other. never_both c.args.bytes.now c.args.shape.now witness e.kind e.at reads (c.in_err-witness.ensures.err (λ same. other (ap (λ (x : TabErr). x.kind) same)))))

pub returns-in_err-witness-clause-fails : goal.returns-in_err-witness-clause-fails
returns-in_err-witness-clause-fails c =
    let q = err_from_is_err_and c.from_residual.result c.from_residual.ensures.1 in
    rw (q.1, q.2) (λ other. c.in_err-witness.ensures.err (λ same. other (ap (λ (x : TabErr). x.kind) same)))

pub returns-in_err-witness-clause-memory : goal.returns-in_err-witness-clause-memory
returns-in_err-witness-clause-memory c =
    let q = err_from_is_err_and c.from_residual.result c.from_residual.ensures.1 in
    rw (q.1, q.2) (memory_place c.args.bytes.now c.args.shape.now c.in_err-witness.field-0.0 c.in_err-witness.ensures.err)
