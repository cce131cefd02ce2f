-- A walk along the happenings of a stripe: each is looked at once, with what those before it left.
use Rattle.std.specs.Prelude.{◌≡◌, ℕ, zero, suc, ◌-◌, ◌≤◌, nat_eq, ◌&&◌, Bool, true, false, if◌then◌else◌, List, [], ◌∷◌, slice_get, slice_set, slice_index_or, ⊤, Option, Some, None, option_map}
use Rattle.reg_model.specs.declared.marks.Happening.{Happening}
use Rattle.reg_model.specs.Marks.{Life}
use Rattle.reg_model.specs.Strict.{IsInTime, ReadsRight, after_life, OpFits}
use Rattle.transcript.specs.declared.claims.ParsedMark.{ParsedMark}
use Rattle.audit.specs.declared.operations.Operation.{Operation}
use Rattle.audit.specs.declared.walks.Stripe.{Stripe}
use Rattle.audit.specs.Operations.{Index, life_in}

-- an operation that was found, where it is of this stripe
abbrev pub of_stripe : ℕ → ℕ → Option Operation → Option Operation
of_stripe g s None = None
of_stripe g s (Some o) = if nat_eq o.group g && nat_eq o.stripe s then Some o else None

-- the life of operation n, where it is of this stripe; one that is open may happen as late as `past`
abbrev pub life_among : List ParsedMark → Index → ℕ → ℕ → ℕ → ℕ → Option Life
life_among claims index past g s zero = None
life_among claims index past g s (suc k) = option_map (life_in claims index.crashes past) (of_stripe g s (slice_get index.found k))

-- the last position, which operations have happened, number n at place n - 1, and what the registers hold
pub record Walk : Type 0 where
  pub last : ℕ
  pub happened : List Bool
  pub registers : List ℕ

-- operation n has happened
abbrev pub has_happened : List Bool → ℕ → Bool
has_happened happened n = slice_index_or happened (n - 1) false

-- A happening goes on: its position does not fall, its operation has not happened, it is in time, and a read answers what the registers hold.
abbrev pub GoesOn : ℕ → (ℕ → Option Life) → Walk → Happening → Type 0
GoesOn block lives walk h =
    (walk.last ≤ h.position) × (has_happened walk.happened h.operation ≡ false) × IsInTime (lives h.operation) h.position
    × ReadsRight block walk.registers (lives h.operation)

-- after a happening
abbrev pub walked : ℕ → (ℕ → Option Life) → Walk → Happening → Walk
walked block lives walk h = record {
  last = h.position;
  happened = slice_set walk.happened (h.operation - 1) true;
  registers = after_life block walk.registers (lives h.operation);
}

-- each happening goes on
abbrev pub GoOn : ℕ → (ℕ → Option Life) → Walk → List Happening → Type 0
GoOn block lives walk [] = ⊤
GoOn block lives walk (h ∷ happenings) = GoesOn block lives walk h × GoOn block lives (walked block lives walk h) happenings

-- after happenings
abbrev pub walked_along : ℕ → (ℕ → Option Life) → Walk → List Happening → Walk
walked_along block lives walk [] = walk
walked_along block lives walk (h ∷ happenings) = walked_along block lives (walked block lives walk h) happenings

-- before any happening of a stripe
abbrev pub walk_from : List Bool → List ℕ → Walk
walk_from happened registers = record { last = 0; happened = happened; registers = registers }

-- what a life asks fits a stripe of m data blocks
abbrev pub LifeFits : ℕ → ℕ → Option Life → Type 0
LifeFits m block None = ⊤
LifeFits m block (Some life) = OpFits m block life.ask.op

-- the lives of the operations of a stripe that is looked at
abbrev pub lives_of : Stripe → ℕ → Option Life
lives_of stripe n = life_among stripe.claims.now stripe.operations.now stripe.past stripe.group stripe.stripe n

-- a happening was taken, where it goes on, and nothing else goes on
abbrev pub TakesHappening : ℕ → (ℕ → Option Life) → ℕ → List Bool → List ℕ → Happening → List Bool → List ℕ → Bool → Type 0
TakesHappening block lives last happened registers h happened_after registers_after true =
    GoesOn block lives (record { last = last; happened = happened; registers = registers }) h
    × (walked block lives (record { last = last; happened = happened; registers = registers }) h
    ≡ record { last = h.position; happened = happened_after; registers = registers_after })
TakesHappening block lives last happened registers h happened_after registers_after false =
    GoesOn block lives (record { last = last; happened = happened; registers = registers }) h → ⊥

-- happenings were walked along, where they go on
abbrev pub WalksAlong : ℕ → (ℕ → Option Life) → Walk → List Happening → List Bool → Bool → Type 0
WalksAlong block lives walk happenings happened_after true =
    GoOn block lives walk happenings × ((walked_along block lives walk happenings).happened ≡ happened_after)
WalksAlong block lives walk happenings happened_after false = GoOn block lives walk happenings → ⊥
