use Rattle.std.proofs.Common.{◌≤◌, sym, ap, arith, length}
use Rattle.std.proofs.lemmas.List.{length-map}
use Rattle.pil_names.specs.Finding.{found}
use Rattle.pil_names.proofs.Places.{no_home}
use Rattle.pil_names.specs.Shown.{home}
use borrow.Author.Tests.{ltb-false}
use Rattle.pil_names.proofs.directory.Directory.item.Goals as goal

pub returns-in-None : goal.returns-in-None
returns-in-None c =
    let o = c.args.outline.now in
    let past : length o.homes ≤ c.args.home = omega (arith, ltb-false _ _ (sym c.in-None.ensures.lookup.0), c.deref.ensures.len, c.requires.spaces, length-map o.homes home) in
    ap (found c.args.reference.now.name.name) (sym (no_home o.homes c.args.home past))
