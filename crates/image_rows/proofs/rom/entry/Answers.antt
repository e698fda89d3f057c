use Rattle.std.proofs.Common.{◌≡◌, ◌<◌, ap, subst, arith}
use Rattle.rv_model.specs.Image.{Img, IsLoadable}
use Rattle.image_rows.proofs.RomRows.{entry_in}
use Rattle.image_rows.proofs.rom.entry.Goals as goal

pub overflow_cast-result : goal.overflow_cast-result
overflow_cast-result c =
    let P : Img → Type 0 = IsLoadable in
    let h = entry_in c.args.image.now (subst P c.image.view_is c.image.invariant.loadable) in
    let e : c.image.inside.entry ≡ c.args.image.now.entry = ap (λ (i : Img). i.entry) c.image.view_is in
    omega arith
