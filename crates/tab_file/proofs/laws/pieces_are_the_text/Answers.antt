use Rattle.std.proofs.Common.{sym}
use Rattle.tab_file.specs.Pieces.{head_text, table_text}
use Rattle.tab_file.proofs.Heights.{text_is, tables_small}
use Rattle.tab_file.proofs.laws.pieces_are_the_text.Goals as goal

pub returns-clause-text : goal.returns-clause-text
unfolding head_text table_text
returns-clause-text c = λ witness shaped. sym (text_is witness shaped)

pub returns-clause-small : goal.returns-clause-small
returns-clause-small c = tables_small
