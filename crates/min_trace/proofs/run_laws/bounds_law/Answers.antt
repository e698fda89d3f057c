use Rattle.std.proofs.Common.{◌<◌, ◌^◌, arith}
use Rattle.min_trace.proofs.Bounds.{FromBelow, record_below, state_below}
use Rattle.min_trace.proofs.run_laws.bounds_law.Goals as goal

pub returns-clause-states : goal.returns-clause-states
returns-clause-states c image is j =
    let laws : FromBelow = record { found = c.decoding_law.ensures.found; range = c.decoding_law.ensures.range; operations = c.values_law.ensures.operations; accesses = c.values_law.ensures.accesses } in
    let entry : image.entry < 2 ^ 32 = c.words_law.ensures.entry image is in
    state_below laws image (omega arith) (λ k. c.words_law.ensures.words image k is) j

pub returns-clause-records : goal.returns-clause-records
returns-clause-records c image is j h =
    let laws : FromBelow = record { found = c.decoding_law.ensures.found; range = c.decoding_law.ensures.range; operations = c.values_law.ensures.operations; accesses = c.values_law.ensures.accesses } in
    let entry : image.entry < 2 ^ 32 = c.words_law.ensures.entry image is in
    record_below laws image j (state_below laws image (omega arith) (λ k. c.words_law.ensures.words image k is) j) h
