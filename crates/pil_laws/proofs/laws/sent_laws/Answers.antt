use Rattle.pil_laws.proofs.Sent.{from_sent, into_sent}
use Rattle.pil_laws.proofs.Sums.{from_all, into_all, contained, contains, carried}
use Rattle.pil_laws.proofs.Times.{weights, from_weights, often_from_permutation}
use Rattle.pil_laws.proofs.laws.sent_laws.Goals as goal

pub returns-clause-sends : goal.returns-clause-sends
returns-clause-sends c = λ ns d a t. (from_sent ns d a t, into_sent ns d a t)

pub returns-clause-sum : goal.returns-clause-sum
returns-clause-sum c = λ ns d ls t. (from_all ns d t ls, λ w. into_all ns d t ls w.0 w.1 w.2)

pub returns-clause-lookup : goal.returns-clause-lookup
returns-clause-lookup c = λ ns d a b. (contained ns d a b, contains ns d a b)

pub returns-clause-bus : goal.returns-clause-bus
returns-clause-bus c = λ ns d ls rs t a h. carried ns d ls rs h t a

pub returns-clause-weight : goal.returns-clause-weight
returns-clause-weight c = λ xs ys. (λ e h. weights h xs ys e, from_weights xs ys)

pub returns-clause-order : goal.returns-clause-order
returns-clause-order c = often_from_permutation
