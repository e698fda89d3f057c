use Rattle.pil_ast.specs.Holds.{lines}
use Rattle.pil_laws.proofs.Lines.{space_holds, text_holds, row_meets, all_hold, buses_hold, item-found, line-found}
use Rattle.pil_laws.proofs.Values.{public_small}
use Rattle.pil_laws.proofs.laws.text_laws.Goals as goal

pub returns-clause-text : goal.returns-clause-text
returns-clause-text c = λ ns d. (space_holds ns d, text_holds ns d)

pub returns-clause-rows : goal.returns-clause-rows
returns-clause-rows c = λ ns d home ls q. ((λ h. (buses_hold ns d ls h, row_meets ns d home ls q h)), λ w. all_hold ns d home ls q w.0 w.1)

pub returns-clause-lines : goal.returns-clause-lines
returns-clause-lines c = λ ns k l sound e. (item-found (lines ns) k l e, line-found ns k l sound e)

pub returns-clause-public : goal.returns-clause-public
returns-clause-public c = public_small
