use Rattle.std.proofs.Common.{◌∙◌, sym}
use Rattle.tab_file.proofs.Again.{file_again}
use Rattle.tab_file.proofs.laws.one_text.Goals as goal

pub returns-clause-witness : goal.returns-clause-witness
returns-clause-witness c = λ bytes shape a b first second. sym (file_again bytes shape a first).same ∙ (file_again bytes shape b second).same

pub returns-clause-bytes : goal.returns-clause-bytes
returns-clause-bytes c = λ a b shape witness first second. first.spelled ∙ sym second.spelled
