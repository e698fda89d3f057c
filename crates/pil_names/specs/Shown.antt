-- The plain data that an outline stands for.
use Rattle.std.specs.Prelude.{map}
use Rattle.pil_syntax.specs.Shown.{term, tuple}
use Rattle.pil_names.specs.declared.outline.Constant as C
use Rattle.pil_names.specs.declared.outline.Draft as D
use Rattle.pil_names.specs.declared.outline.Draft.TheVariants as drafts
use Rattle.pil_names.specs.declared.outline.Home as H
use Rattle.pil_names.specs.declared.outline.Outline as O
use Rattle.pil_names.specs.Outline.{Named, Draft, column, defined, published, equal, inside, against, Home, Outline}

abbrev pub named : C.Constant → Named
named c = record { name = c.name.now; value = c.value }

abbrev pub draft : D.Draft → Draft
draft (drafts.Column k d) = column k d.now
draft (drafts.Intermediate x e) = defined x.now (term e.now)
draft (drafts.Public x r n) = published x.now r.now n
draft (drafts.Identity a b) = equal (term a.now) (term b.now)
draft (drafts.Lookup a b) = inside (tuple a.now) (tuple b.now)
draft (drafts.Bus ls rs) = against (map tuple ls.now) (map tuple rs.now)

abbrev pub home : H.Home → Home
home h = record { name = h.name.now; size = h.size.now; items = map draft h.items }

abbrev pub outlined : O.Outline → Outline
outlined o = record { constants = map named o.constants; homes = map home o.homes }
