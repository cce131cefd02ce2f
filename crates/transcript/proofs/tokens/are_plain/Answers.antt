-- Each token is the next of those of the text.
use Rattle.std.proofs.Common.{Option, Some, None, ◌≡◌, ℕ, ◌+◌, ◌<◌, ◌==◌, ◌&&◌, Bool, true, false, List, length, get_or, drop, refl, sym, ap, ◌∙◌, rules, tests, arith}
use Rattle.std.specs.List.{list_all, slice_split}
use Rattle.std.proofs.lemmas.List.{at_drop_more, at_drop_all, length_push}
use Rattle.std.specs.Iterator.{Yields}
use Rattle.std.proofs.lemmas.Iterator.{YieldsList}
use Rattle.std.proofs.lemmas.Iterator.Consumers.{YieldsList-at, YieldsList-turn, YieldsList-end}
use Rattle.std.proofs.lemmas.Iterator.Splits.{YieldsList-from_slice_split}
use Rattle.transcript.specs.Tokens.{is_plain, are_plain}
use Rattle.transcript.proofs.tokens.are_plain.Goals as goal

-- an item, where it is known which calls gave those before it
turn_with : {S A B : Type 0} {steps : S → Option A → S → Type 0} {v : A → B} {s : S} {all : List B} (xs : List A) (t : S) (y : Yields steps s xs t)
    (r : Option A) (u : S) (x : A) → r ≡ Some x → steps t r u → YieldsList steps v s all → (length xs < length all) × (v x ≡ get_or all (length xs) (v x))
turn_with xs t y r u x is st e = YieldsList-turn e xs t y r u x is st

end_with : {S A B : Type 0} {steps : S → Option A → S → Type 0} {v : A → B} {s : S} {all : List B} (xs : List A) (t : S) (y : Yields steps s xs t)
    (r : Option A) (u : S) → r ≡ None → steps t r u → YieldsList steps v s all → length xs ≡ length all
end_with xs t y r u is st e = (YieldsList-end e xs t y r u is st).1

unfold_all : (text : List ℕ) → list_all is_plain (slice_split (λ byte. byte == 32) text) ≡ are_plain text
unfolding are_plain
unfold_all text = refl

-- whether the tokens from a place on spell numbers, by the token there
all_from : (xs : List (List ℕ)) (n : ℕ) (x : List ℕ) (b : Bool) → (n < length xs) × (x ≡ get_or xs n x) → b ≡ is_plain x
    → list_all is_plain (drop n xs) ≡ (b && list_all is_plain (drop (n + 1) xs))
all_from xs n x b h is =
    at_drop_more (list_all is_plain) xs n x h.0
    ∙ ap (λ (y : List ℕ). is_plain y && list_all is_plain (drop (n + 1) xs)) (sym h.1)
    ∙ ap (λ (t : Bool). t && list_all is_plain (drop (n + 1) xs)) (sym is)

pub returns-then-not-is_plain : goal.returns-then-not-is_plain
returns-then-not-is_plain c =
    let t = turn_with c.loop-token.yielded _ c.loop-token.yielded_by _ _ c.in-Some.token c.in-Some.is c.next.ensures.steps
    (YieldsList-at c.into_iter-token-iterator.ensures.into_iter_gives
    (YieldsList-from_slice_split _ (λ byte. byte == 32) c.args.text.now c.split-token-items.ensures.rest c.split-token-items.ensures.done
    c.split-token-items.ensures.closure (λ x b q k. search (rules, tests)))) in
    sym (all_from _ _ _ false t (sym c.if-not-is_plain.true ∙ c.is_plain.ensures)) ∙ c.loop-token.invariant ∙ unfold_all c.args.text.now

pub loop-token-preserved : goal.loop-token-preserved
loop-token-preserved c =
    let t = turn_with c.loop-token.yielded _ c.loop-token.yielded_by _ _ c.in-Some.token c.in-Some.is c.next.ensures.steps
    (YieldsList-at c.into_iter-token-iterator.ensures.into_iter_gives
    (YieldsList-from_slice_split _ (λ byte. byte == 32) c.args.text.now c.split-token-items.ensures.rest c.split-token-items.ensures.done
    c.split-token-items.ensures.closure (λ x b q k. search (rules, tests)))) in
    ap (λ (n : ℕ). list_all is_plain (drop n (slice_split (λ byte. byte == 32) c.args.text.now))) (length_push c.loop-token.yielded c.in-Some.token)
    ∙ sym (all_from _ _ _ true t (sym c.if-not-is_plain.false ∙ c.is_plain.ensures)) ∙ c.loop-token.invariant

pub returns : goal.returns
returns c =
    let t = end_with c.loop-token.yielded _ c.loop-token.yielded_by _ _ c.in-None.is c.next.ensures.steps
    (YieldsList-at c.into_iter-token-iterator.ensures.into_iter_gives
    (YieldsList-from_slice_split _ (λ byte. byte == 32) c.args.text.now c.split-token-items.ensures.rest c.split-token-items.ensures.done
    c.split-token-items.ensures.closure (λ x b q k. search (rules, tests)))) in
    sym (at_drop_all (list_all is_plain) (slice_split (λ byte. byte == 32) c.args.text.now) (length c.loop-token.yielded) (omega (arith, t)))
    ∙ c.loop-token.invariant ∙ unfold_all c.args.text.now
