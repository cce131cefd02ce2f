use Rattle.std.proofs.Common.{rules}
use Rattle.audit.proofs.walks.Stripe.take.Goals as goal

pub returns-then-happening-last : goal.returns-then-happening-last
returns-then-happening-last c = search rules

pub returns-in_default : goal.returns-in_default
returns-in_default c = search rules

pub returns-then-happened-at : goal.returns-then-happened-at
returns-then-happened-at c = search rules

pub returns-then-not-is_read_right : goal.returns-then-not-is_read_right
returns-then-not-is_read_right c = search rules

pub returns : goal.returns
returns c = search rules
