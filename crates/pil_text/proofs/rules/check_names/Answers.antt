use Rattle.std.proofs.Common.{Some, refl, sym, ap, ◌∙◌, arith}
use Rattle.pil_names.specs.Wrongs.{repeated, unknown, bad_rows, mixed, wrong_widths}
use Rattle.pil_names.specs.Shown.{outlined}
use Rattle.pil_text.specs.declared.error.PilKind.TheVariants.{Repeated, UnknownName, BadRow, Mixed, WrongWidth}
use Rattle.pil_text.proofs.Order.{unless, told, kept, start, past_repeated, past_unknown, past_rows, past_mixed}
use Rattle.pil_text.proofs.rules.check_names.Goals as goal

pub returns-in-Some-clause-told : goal.returns-in-Some-clause-told
returns-in-Some-clause-told c =
    let o = outlined c.args.outline.now in
    unless o c.refusal.result (told c.least_is_least.ensures.least o Repeated (repeated o) c.args.repeated c.refusal.result (start o) (omega arith) (λ at. refl) c.requires.repeated c.refusal.ensures.kind (c.in-Some.is ∙ ap Some (sym c.refusal.ensures.at)))

pub returns-in-Some-least_unknown-clause-told : goal.returns-in-Some-least_unknown-clause-told
returns-in-Some-least_unknown-clause-told c =
    let o = outlined c.args.outline.now in
    let is_least = c.least_is_least.ensures.least in
    let first = past_repeated o (kept is_least (repeated o) c.args.repeated c.requires.repeated c.in_default.is) in
    unless o c.refusal-in-Some-least_unknown.result (told is_least o UnknownName (unknown o) c.least_unknown.result c.refusal-in-Some-least_unknown.result first (omega arith) (λ at. refl) c.least_unknown.ensures c.refusal-in-Some-least_unknown.ensures.kind (c.in-Some-least_unknown.is ∙ ap Some (sym c.refusal-in-Some-least_unknown.ensures.at)))

pub returns-in-Some-least_bad_row-clause-told : goal.returns-in-Some-least_bad_row-clause-told
returns-in-Some-least_bad_row-clause-told c =
    let o = outlined c.args.outline.now in
    let is_least = c.least_is_least.ensures.least in
    let first = past_repeated o (kept is_least (repeated o) c.args.repeated c.requires.repeated c.in_default.is) in
    let second = past_unknown o first (kept is_least (unknown o) c.least_unknown.result c.least_unknown.ensures c.in_default-least_unknown.is) in
    unless o c.refusal-in-Some-least_bad_row.result (told is_least o BadRow (bad_rows o) c.least_bad_row.result c.refusal-in-Some-least_bad_row.result second (omega arith) (λ at. refl) c.least_bad_row.ensures c.refusal-in-Some-least_bad_row.ensures.kind (c.in-Some-least_bad_row.is ∙ ap Some (sym c.refusal-in-Some-least_bad_row.ensures.at)))

pub returns-in-Some-least_mixed-clause-told : goal.returns-in-Some-least_mixed-clause-told
returns-in-Some-least_mixed-clause-told c =
    let o = outlined c.args.outline.now in
    let is_least = c.least_is_least.ensures.least in
    let first = past_repeated o (kept is_least (repeated o) c.args.repeated c.requires.repeated c.in_default.is) in
    let second = past_unknown o first (kept is_least (unknown o) c.least_unknown.result c.least_unknown.ensures c.in_default-least_unknown.is) in
    let third = past_rows o second (kept is_least (bad_rows o) c.least_bad_row.result c.least_bad_row.ensures c.in_default-least_bad_row.is) in
    unless o c.refusal-in-Some-least_mixed.result (told is_least o Mixed (mixed o) c.least_mixed.result c.refusal-in-Some-least_mixed.result third (omega arith) (λ at. refl) c.least_mixed.ensures c.refusal-in-Some-least_mixed.ensures.kind (c.in-Some-least_mixed.is ∙ ap Some (sym c.refusal-in-Some-least_mixed.ensures.at)))

pub returns-in-Some-least_wrong_width-clause-told : goal.returns-in-Some-least_wrong_width-clause-told
returns-in-Some-least_wrong_width-clause-told c =
    let o = outlined c.args.outline.now in
    let is_least = c.least_is_least.ensures.least in
    let first = past_repeated o (kept is_least (repeated o) c.args.repeated c.requires.repeated c.in_default.is) in
    let second = past_unknown o first (kept is_least (unknown o) c.least_unknown.result c.least_unknown.ensures c.in_default-least_unknown.is) in
    let third = past_rows o second (kept is_least (bad_rows o) c.least_bad_row.result c.least_bad_row.ensures c.in_default-least_bad_row.is) in
    let fourth = past_mixed o third (kept is_least (mixed o) c.least_mixed.result c.least_mixed.ensures c.in_default-least_mixed.is) in
    unless o c.refusal-in-Some-least_wrong_width.result (told is_least o WrongWidth (wrong_widths o) c.least_wrong_width.result c.refusal-in-Some-least_wrong_width.result fourth (omega arith) (λ at. refl) c.least_wrong_width.ensures c.refusal-in-Some-least_wrong_width.ensures.kind (c.in-Some-least_wrong_width.is ∙ ap Some (sym c.refusal-in-Some-least_wrong_width.ensures.at)))
