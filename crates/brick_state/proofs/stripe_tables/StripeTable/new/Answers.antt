-- No stripes: no live records, and no names.
use Rattle.std.proofs.Common.{◌≡◌, ℕ, List, [], length, refl, ap, sym, ◌∙◌, arith}
use Rattle.brick_state.specs.States.{live_in}
use Rattle.brick_state.specs.Maps.{listed, flat, listed_in}
use Rattle.brick_state.proofs.Tallies.{names-none, beyond-none}
use Rattle.brick_state.proofs.stripe_tables.StripeTable.new.Goals as goal

none_listed : listed (flat []) ≡ []
unfolding listed flat
none_listed = refl

pub returns-clause-nothing : goal.returns-clause-nothing
returns-clause-nothing c = ap (λ es. listed (flat es)) c.new.ensures.empty ∙ none_listed

pub invariant_of-result : goal.invariant_of-result
invariant_of-result c =
    let none : listed_in c.new.result ≡ [] = ap (λ es. listed (flat es)) c.new.ensures.empty ∙ none_listed in
    record {
      fits = omega arith;
      few = omega (arith, c.ranges.slots.fits);
      counted = sym (ap live_in none);
      named = names-none (listed_in c.new.result) c.new-2.result (ap (λ (counts : List ℕ). length counts) c.new-2.ensures);
      beyond = beyond-none c.args.slots (listed_in c.new.result) c.new-2.result none;
    }
