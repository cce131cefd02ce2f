-- The number of a call is that of an operation of this very call, in every world that a schedule reaches.
use Rattle.std.proofs.Common.{◌≡◌, ◌≢◌, ℕ, ◌+◌, ◌≤◌, ⊎_elim, Bool, true, false, cond, nat_eq, ◌&&◌, List, [], length, Option, Some, None, refl, sym, ap, ◌∙◌, subst, arith}
use Rattle.std.proofs.lemmas.Bool.{and_parts, cond_both, cases_eq, eqb-true}
use Rattle.std.proofs.lemmas.Option.{same_Some}
use Rattle.fab_base.specs.declared.answers.Answer.{Answer}
use Rattle.fab_base.specs.declared.answers.Cause.{Cause}
use Rattle.fab_base.specs.declared.stamps.Stamp.{Stamp}
use Rattle.fab_base.specs.declared.asks.Ask.{Ask}
use Rattle.fab_base.specs.declared.identities.BrickId.{BrickId}
use Rattle.fab_base.specs.Layouts.{Layout}
use Rattle.stripe_code.specs.Codes.{coding}
use Rattle.protocol.specs.Settings.{Setting}
use Rattle.protocol.specs.Coordinators.{Coordinator}
use Rattle.protocol.specs.Nodes.{NodeStep, put, invoked, proposed, synced_at, scrubbed_at}
use Rattle.protocol.specs.Worlds.{World, Operation, Event, first_world, is_brick, is_up, number_of, read_of_call, with_made, with_seen, with_closed, with_answer, world_began, world_stepped, run}
use Rattle.protocol_laws.proofs.Books.{Books}
use Rattle.world.specs.CallNumbers.{AreCalls}
use Rattle.world.proofs.Places.{value_here, value_elsewhere}
use Rattle.protocol.proofs.Events.{EventCases, step_on, world_counting, stepped_each, started_each, always}

-- the operation is of this call
abbrev pub IsOfCallAt : ℕ → ℕ → ℕ → Operation → Type 0
IsOfCallAt i b k o = (o.brick.0 ≡ i) × (o.boot ≡ b) × (o.seq ≡ k)

-- a call that has a number has that of an operation of it
abbrev pub NumbersSay : World → Type 0
NumbersSay w =
    (i b k : ℕ) → w.numbers i b k ≢ 0
    → (w.numbers i b k ≤ w.begun) × ((o : Operation) × (w.operations (w.numbers i b k) ≡ Some o) × IsOfCallAt i b k o)

-- so of these numbers and operations, so many
abbrev pub NumbersSayOf : ℕ → (ℕ → ℕ → ℕ → ℕ) → (ℕ → Option Operation) → Type 0
NumbersSayOf begun numbers operations =
    (i b k : ℕ) → numbers i b k ≢ 0
    → (numbers i b k ≤ begun) × ((o : Operation) × (operations (numbers i b k) ≡ Some o) × IsOfCallAt i b k o)

-- the same operations, of the same calls
abbrev pub SameCall : Operation → Operation → Type 0
SameCall o p = (p.brick ≡ o.brick) × (p.boot ≡ o.boot) × (p.seq ≡ o.seq)

-- one operation changed, but not its call
one_changed : (operations : ℕ → Option Operation) (at : ℕ) (change : Option Operation → Option Operation)
    → ((o : Operation) → (p : Operation) × (change (Some o) ≡ Some p) × SameCall o p)
    → (n : ℕ) (o : Operation) → operations n ≡ Some o → (p : Operation) × (put operations at (change (operations at)) n ≡ Some p) × SameCall o p
one_changed operations at change same n o is =
    cond_both (nat_eq n at) (change (operations at)) (operations n) (λ (x : Option Operation). (p : Operation) × (x ≡ Some p) × SameCall o p)
    (λ here.
    let becomes = same o in
    let was : operations at ≡ Some o = ap operations (sym (eqb-true n at here)) ∙ is in
    (becomes.0, ap change was ∙ becomes.1, becomes.2))
    (λ there. (o, is, (refl, refl, refl)))

-- so the numbers say the same
numbers_changed : (w : World) (at : ℕ) (change : Option Operation → Option Operation)
    → ((o : Operation) → (p : Operation) × (change (Some o) ≡ Some p) × SameCall o p) → NumbersSay w
    → NumbersSayOf w.begun w.numbers (put w.operations at (change (w.operations at)))
numbers_changed w at change same says i b k some =
    let was = says i b k some in
    let now = one_changed w.operations at change same (w.numbers i b k) was.1.0 was.1.1 in
    (was.0, (now.0, now.1, (ap (λ (brick : BrickId). brick.0) now.2.0 ∙ was.1.2.0, now.2.1 ∙ was.1.2.1, now.2.2 ∙ was.1.2.2)))

-- a call more, of an operation that begins
numbers_more : (w : World) (brick : BrickId) (boot seq : ℕ) (o : Operation) → o.brick ≡ brick → o.boot ≡ boot → o.seq ≡ seq → NumbersSay w
    → NumbersSayOf (w.begun + 1) (put w.numbers brick.0 (put (w.numbers brick.0) boot (put (w.numbers brick.0 boot) seq (w.begun + 1))))
    (put w.operations (w.begun + 1) (Some o))
numbers_more w brick boot seq o brick_is boot_is seq_is says i b k = by_brick (nat_eq i brick.0) refl
  where
    n : ℕ
    n = w.begun + 1

    operations : ℕ → Option Operation
    operations = put w.operations n (Some o)

    Fits : ℕ → Type 0
    Fits number = number ≢ 0 → (number ≤ n) × ((p : Operation) × (operations number ≡ Some p) × IsOfCallAt i b k p)

    -- an older one stays
    older : Fits (w.numbers i b k)
    older some =
        let was = says i b k some in
        let apart : w.numbers i b k ≢ n = (λ e. omega (arith, was.0, e)) in
        (omega (arith, was.0), (was.1.0, value_elsewhere w.operations n (w.numbers i b k) (Some o) apart ∙ was.1.1, was.1.2))

    by_seq : (x : Bool) → nat_eq k seq ≡ x → i ≡ brick.0 → b ≡ boot → Fits (cond x n (w.numbers brick.0 boot k))
    by_seq true same at from some = (
      omega arith,
      (
        o,
        value_here w.operations n n (Some o) refl,
        (ap (λ (x : BrickId). x.0) brick_is ∙ sym at, boot_is ∙ sym from, seq_is ∙ sym (eqb-true k seq same)),
      ),
    )
    by_seq false other at from some =
        subst Fits (ap (λ j. w.numbers j b k) at ∙ ap (λ c. w.numbers brick.0 c k) from) older some

    by_boot : (x : Bool) → nat_eq b boot ≡ x → i ≡ brick.0 → Fits (cond x (put (w.numbers brick.0 boot) seq n) (w.numbers brick.0 b) k)
    by_boot true same at = by_seq (nat_eq k seq) refl at (eqb-true b boot same)
    by_boot false other at = subst Fits (ap (λ j. w.numbers j b k) at) older

    by_brick : (x : Bool) → nat_eq i brick.0 ≡ x
        → Fits (cond x (put (w.numbers brick.0) boot (put (w.numbers brick.0 boot) seq n)) (w.numbers i) b k)
    by_brick true same = by_boot (nat_eq b boot) refl (eqb-true i brick.0 same)
    by_brick false other = older

-- a brick's step
numbers_stepped : (setting : Setting) (w : World) (brick : BrickId) (step : NodeStep) → NumbersSay w → NumbersSay (world_stepped setting w brick step)
numbers_stepped setting w brick step says =
    stepped_each NumbersSay setting brick step
    (λ x seq t base. numbers_changed x (number_of x brick.0 seq) (with_made t base) (λ o. (_, refl, (refl, refl, refl))))
    (λ x seq v. numbers_changed x (number_of x brick.0 seq) (with_seen v) (λ o. (_, refl, (refl, refl, refl))))
    (λ x nodes call. numbers_more x brick call.boot call.seq (read_of_call nodes x brick call) refl refl refl)
    (λ x seq cause. numbers_changed x (number_of x brick.0 seq) (with_closed cause) (λ o. (_, refl, (refl, refl, refl))))
    (λ x one. numbers_changed x (number_of x brick.0 one.seq) (with_answer one.answer) (λ o. (_, refl, (refl, refl, refl))))
    (λ x nodes held packets choices holds. holds) w says

-- an operation of a client
numbers_began : (w : World) (brick : BrickId) (ask : Ask) (step : NodeStep) → NumbersSay w → NumbersSay (world_began w brick ask step)
numbers_began w brick ask step says = numbers_more w brick step.node.boot step.node.seq _ refl refl refl says

-- every event
numbers_cases : (setting : Setting) (w : World) → NumbersSay w → EventCases setting w NumbersSay
numbers_cases setting w says = record {
  begins = λ brick ask may. numbers_began w brick ask (invoked setting brick (w.clocks brick.0) (w.nodes brick.0) ask) says;
  proposes = λ brick group members may. numbers_stepped setting w brick (proposed setting brick (w.nodes brick.0) group members) says;
  syncs = λ brick group may. numbers_stepped setting w brick (synced_at setting brick (w.clocks brick.0) (w.nodes brick.0) group) says;
  scrubs = λ brick group stripe members may.
      numbers_stepped setting w brick (scrubbed_at setting brick (w.clocks brick.0) (w.nodes brick.0) group stripe members) says;
  handles = λ number packet at up. numbers_stepped setting (world_counting setting w number packet) packet.to (step_on setting w packet) says;
  sets = λ brick time is. says;
  ticks = λ brick up. says;
  stops = λ brick during up. says;
  starts = λ brick openings found may. started_each NumbersSay w brick openings says says found;
}

-- every world that a schedule reaches
pub numbers_say : (layout : Layout) (events : List Event) → NumbersSay (run (coding layout) events (first_world layout))
numbers_say layout = always NumbersSay (coding layout) (λ i b k some. absurd (some refl)) (numbers_cases (coding layout))

-- each operation is of a brick of the layout
abbrev pub AreOfBricks : Layout → World → Type 0
AreOfBricks layout w = (n : ℕ) (o : Operation) → w.operations n ≡ Some o → is_brick layout o.brick ≡ true

-- one operation changed, but not its call
one_before : (operations : ℕ → Option Operation) (at : ℕ) (change : Option Operation → Option Operation)
    → ((found : Option Operation) (p : Operation) → change found ≡ Some p → (o : Operation) × (found ≡ Some o) × SameCall o p)
    → (n : ℕ) (p : Operation) → put operations at (change (operations at)) n ≡ Some p → (o : Operation) × (operations n ≡ Some o) × SameCall o p
one_before operations at change same n p =
    cond_both (nat_eq n at) (change (operations at)) (operations n)
    (λ (x : Option Operation). x ≡ Some p → (o : Operation) × (operations n ≡ Some o) × SameCall o p)
    (λ here is. (let was = same (operations at) p is in (was.0, ap operations (eqb-true n at here) ∙ was.1, was.2)))
    (λ there is. (p, is, (refl, refl, refl)))

made_before : (t : Stamp) (base : Option Stamp) (found : Option Operation) (p : Operation) → with_made t base found ≡ Some p
    → (o : Operation) × (found ≡ Some o) × SameCall o p
made_before t base None p is = absurd (let never : None ≡ Some p = is in cc)
made_before t base (Some o) p is = (o, refl, subst (SameCall o) (same_Some _ p is) (refl, refl, refl))

seen_before : (v : Stamp) (found : Option Operation) (p : Operation) → with_seen v found ≡ Some p → (o : Operation) × (found ≡ Some o) × SameCall o p
seen_before v None p is = absurd (let never : None ≡ Some p = is in cc)
seen_before v (Some o) p is = (o, refl, subst (SameCall o) (same_Some _ p is) (refl, refl, refl))

answer_before : (answer : Answer) (found : Option Operation) (p : Operation) → with_answer answer found ≡ Some p
    → (o : Operation) × (found ≡ Some o) × SameCall o p
answer_before answer None p is = absurd (let never : None ≡ Some p = is in cc)
answer_before answer (Some o) p is = (o, refl, subst (SameCall o) (same_Some _ p is) (refl, refl, refl))

closed_before : (cause : Option Cause) (found : Option Operation) (p : Operation) → with_closed cause found ≡ Some p
    → (o : Operation) × (found ≡ Some o) × SameCall o p
closed_before cause None p is = absurd (let never : None ≡ Some p = is in cc)
closed_before cause (Some o) p is = (o, refl, subst (SameCall o) (same_Some _ p is) (refl, refl, refl))

-- a change of an operation that keeps its call keeps the bricks
bricks_put : (layout : Layout) (w : World) (at : ℕ) (change : Option Operation → Option Operation)
    → ((found : Option Operation) (p : Operation) → change found ≡ Some p → (o : Operation) × (found ≡ Some o) × SameCall o p) → AreOfBricks layout w
    → (n : ℕ) (o : Operation) → put w.operations at (change (w.operations at)) n ≡ Some o → is_brick layout o.brick ≡ true
bricks_put layout w at change same are n p is =
    let was = one_before w.operations at change same n p is in ap (is_brick layout) was.2.0 ∙ are n was.0 was.1

-- an operation more, of a brick of the layout
bricks_more : (layout : Layout) (w : World) (one : Operation) → is_brick layout one.brick ≡ true → AreOfBricks layout w
    → (n : ℕ) (o : Operation) → put w.operations (w.begun + 1) (Some one) n ≡ Some o → is_brick layout o.brick ≡ true
bricks_more layout w one there are n o =
    cond_both (nat_eq n (w.begun + 1)) (Some one) (w.operations n) (λ (x : Option Operation). x ≡ Some o → is_brick layout o.brick ≡ true)
    (λ here is. subst (λ (x : Operation). is_brick layout x.brick ≡ true) (same_Some one o is) there)
    (λ elsewhere is. are n o is)

bricks_stepped : (setting : Setting) (w : World) (brick : BrickId) (step : NodeStep) → is_brick setting.layout brick ≡ true → AreOfBricks setting.layout w
    → AreOfBricks setting.layout (world_stepped setting w brick step)
bricks_stepped setting w brick step there are =
    stepped_each (AreOfBricks setting.layout) setting brick step
    (λ x seq t base. bricks_put setting.layout x (number_of x brick.0 seq) (with_made t base) (made_before t base))
    (λ x seq v. bricks_put setting.layout x (number_of x brick.0 seq) (with_seen v) (seen_before v))
    (λ x nodes call. bricks_more setting.layout x (read_of_call nodes x brick call) there)
    (λ x seq cause. bricks_put setting.layout x (number_of x brick.0 seq) (with_closed cause) (closed_before cause))
    (λ x one. bricks_put setting.layout x (number_of x brick.0 one.seq) (with_answer one.answer) (answer_before one.answer))
    (λ x nodes held packets choices holds. holds) w are

bricks_began : (layout : Layout) (w : World) (brick : BrickId) (ask : Ask) (step : NodeStep) → is_brick layout brick ≡ true → AreOfBricks layout w
    → AreOfBricks layout (world_began w brick ask step)
bricks_began layout w brick ask step there are = bricks_more layout w _ there are

-- a brick that may do something is one of the layout
is_there : (layout : Layout) (w : World) (brick : BrickId) (b : Bool) → is_up layout w brick && b ≡ true → is_brick layout brick ≡ true
is_there layout w brick b may = (and_parts (is_brick layout brick) (w.up brick.0) (and_parts (is_up layout w brick) b may).0).0

bricks_cases : (setting : Setting) (w : World) → AreOfBricks setting.layout w → EventCases setting w (AreOfBricks setting.layout)
bricks_cases setting w are = record {
  begins = λ brick ask may.
      bricks_began setting.layout w brick ask (invoked setting brick (w.clocks brick.0) (w.nodes brick.0) ask) (is_there setting.layout w brick _ may) are;
  proposes = λ brick group members may.
      bricks_stepped setting w brick (proposed setting brick (w.nodes brick.0) group members) (is_there setting.layout w brick _ may) are;
  syncs = λ brick group may.
      bricks_stepped setting w brick (synced_at setting brick (w.clocks brick.0) (w.nodes brick.0) group) (is_there setting.layout w brick _ may) are;
  scrubs = λ brick group stripe members may.
      bricks_stepped setting w brick (scrubbed_at setting brick (w.clocks brick.0) (w.nodes brick.0) group stripe members)
      (is_there setting.layout w brick _ may) are;
  handles = λ number packet at up.
      bricks_stepped setting (world_counting setting w number packet) packet.to (step_on setting w packet)
      (and_parts (is_brick setting.layout packet.to) (w.up packet.to.0) up).0 are;
  sets = λ brick time is. are;
  ticks = λ brick up. are;
  stops = λ brick during up. are;
  starts = λ brick openings found may. started_each (AreOfBricks setting.layout) w brick openings are are found;
}

-- so in every world that a schedule reaches
pub of_bricks : (layout : Layout) (events : List Event) → AreOfBricks layout (run (coding layout) events (first_world layout))
of_bricks layout =
    always (AreOfBricks layout) (coding layout) (λ n o is. absurd (let never : None ≡ Some o = is in cc)) (bricks_cases (coding layout))

-- what books say of operations and open calls: the number of an operation is that of its call
pub record KnowsCalls (w : World) : Type 0 where
  pub numbered : (n : ℕ) (o : Operation) → w.operations n ≡ Some o → w.numbers o.brick.0 o.boot o.seq ≡ n
  pub called : (n : ℕ) (o : Operation) → w.operations n ≡ Some o → o.boot ≡ (w.nodes o.brick.0).boot → o.seq ≤ (w.nodes o.brick.0).seq
  pub opened : (i k : ℕ) (c : Coordinator) → (w.nodes i).calls k ≡ Some c
      → (o : Operation) × (w.operations (number_of w i k) ≡ Some o) × (o.brick.0 ≡ i) × (o.boot ≡ (w.nodes i).boot) × (o.seq ≡ k)
  pub up : (i k : ℕ) (c : Coordinator) → (w.nodes i).calls k ≡ Some c → w.up i ≡ true

pub knows_calls : (setting : Setting) (w : World) → Books setting w → KnowsCalls w
knows_calls setting w books = record {
  numbered = λ n o is. (books.operations n o is).number;
  called = λ n o is at. (books.operations n o is).called.1 at;
  opened = λ i k c is. (let call = books.calls i k c is in (call.operation, call.operation_is, call.brick, call.boot, call.seq));
  up = λ i k c is. (books.calls i k c is).up;
}

-- a brick's next call is that of no operation yet
pub next_unnumbered : (w : World) → NumbersSay w → KnowsCalls w → (i : ℕ) → number_of w i ((w.nodes i).seq + 1) ≡ 0
next_unnumbered w says knows i = ⊎_elim
    (λ (none : number_of w i ((w.nodes i).seq + 1) ≡ 0). none)
    (λ (some : number_of w i ((w.nodes i).seq + 1) ≢ 0).
    let found = says i (w.nodes i).boot ((w.nodes i).seq + 1) some in
    let o : Operation = found.1.0 in
    let at : o.brick.0 ≡ i = found.1.2.0 in
    let boot : o.boot ≡ (w.nodes o.brick.0).boot = found.1.2.1 ∙ sym (ap (λ j. (w.nodes j).boot) at) in
    let count : (w.nodes o.brick.0).seq ≡ (w.nodes i).seq = ap (λ j. (w.nodes j).seq) at in
    absurd (omega (arith, knows.called (number_of w i ((w.nodes i).seq + 1)) o found.1.1 boot, found.1.2.2, count)))
    (cases_eq (number_of w i ((w.nodes i).seq + 1)) 0)

-- at first no brick has made a call, up or down
pub none_called : (up : Bool) (calls : List ℕ) (number : ℕ → ℕ) → calls ≡ [] → AreCalls up calls number 0
none_called true calls number none = (ap length none, λ k below. absurd (omega (arith, below)))
none_called false calls number none = none
