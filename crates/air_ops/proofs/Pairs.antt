-- Pairs within pairs, as one row.

pub ◌▸◌ : {A B : Type 0} → A → B → A × B
a ▸ b = (a, b)

infixr 5 ◌▸◌
