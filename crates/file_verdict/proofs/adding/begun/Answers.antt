use Rattle.std.proofs.Common.{List, [], sym, subst}
use Rattle.gold.specs.declared.instances.Table.{Table}
use Rattle.fixed_cols.specs.declared.sizes.Sizes.{Sizes}
use Rattle.verdict.specs.Standing.{AreAllowed, StandsForTables}
use Rattle.file_verdict.specs.Standing.{sizes_in, the_shape}
use Rattle.file_verdict.proofs.Steps.{no_table, seven, sizes_are}
use Rattle.file_verdict.proofs.adding.begun.Goals as goal

-- the counts have come, and there are seven of them
pub sizes_of-sizes-requires : goal.sizes_of-sizes-requires
sizes_of-sizes-requires c =
    let r = c.requires in
    let told = c.in-Some-counts.ensures the_shape r.bytes r.stands in
    seven c.front_laws.ensures.counts r.bytes c.in-Some-counts.counts.now r.are told.0 told.1

pub new-requires : goal.new-requires
new-requires c =
    let r = c.requires in
    let counts = c.in-Some-counts.ensures the_shape r.bytes r.stands in
    let profile = c.in-Some-profile.ensures the_shape r.bytes r.stands in
    let is = sizes_are c.sizes_of-sizes.result c.in-Some-profile.profile c.in-Some-counts.counts.now r.bytes c.sizes_of-sizes.ensures profile.1 counts.1 in
    subst AreAllowed (sym is) (c.front_laws.ensures.counts r.bytes the_shape r.are counts.0)

pub returns : goal.returns
returns c = λ bytes before are stands none.
    let counts = c.in-Some-counts.ensures the_shape bytes stands in
    let profile = c.in-Some-profile.ensures the_shape bytes stands in
    let is = sizes_are c.sizes_of-sizes.result c.in-Some-profile.profile c.in-Some-counts.counts.now bytes c.sizes_of-sizes.ensures profile.1 counts.1 in
    record {
      come = counts.0;
      stands = subst (λ (ts : List Table). StandsForTables c.args.image.now (sizes_in bytes) ts c.in_ok-run.run') (sym (no_table c.args.image.now bytes before c.args.run c.in_default.not-Some none)) (subst (λ (z : Sizes). StandsForTables c.args.image.now z [] c.in_ok-run.run') is c.in_ok-run.ensures);
    }
