-- Turns that were taken so far, and how a run of turns ends.
use Rattle.std.proofs.Common.{◌≡◌, ◌⊎◌, ℕ, ◌+◌, ◌<◌, List, [], ◌∷◌, ◌++◌, length, Result, Ok, Err, IsOk, refl, sym, ap, ◌∙◌, subst, length-append, add-zero, inl, inr}
use Rattle.fab_base.specs.declared.identities.BrickId.{BrickId}
use Rattle.protocol.specs.Nodes as machine
use Rattle.fab_base.specs.Layouts.{Layout}
use Rattle.protocol.specs.Settings.{Setting}
use Rattle.stripe_code.specs.Codes.{coding}
use Rattle.serving.specs.declared.faults.ServeFault.{ServeFault}
use Rattle.serving.specs.declared.faults.ServeFault.TheVariants.{Disk, Halted, Link, Clock, NoMemory}
use Rattle.serving.specs.Serves.{Outside, RunsTurns, Stops, TakesTurn, IsServed}
use Rattle.serving.specs.Servings.{Serving, HasNoClient, begun}
use Rattle.serving.specs.Turns.{Turn, malformed_count, malformed_in}
use Rattle.serving.proofs.Taking.{RunsTurns-none, RunsTurns-more, Stops-more, malformed_in-append}

-- so many turns were taken, and so many datagrams came in them that are no message
pub record HasServed (setting : Setting) (me : BrickId) (from to : Serving) (before after : Outside) (count malformed : ℕ) : Type 0 where
  pub turns : List Turn
  pub count_is : length turns ≡ count
  pub runs : RunsTurns setting me from to before after turns
  pub malformed_is : malformed ≡ malformed_in turns

-- one turn more
one_longer : (turns : List Turn) (turn : Turn) (count : ℕ) → length turns ≡ count → length (turns ++ (turn ∷ [])) ≡ count + 1
one_longer turns turn count is = length-append turns (turn ∷ []) ∙ ap (λ n. n + 1) is

-- and what came in it
one_counted : (turns : List Turn) (turn : Turn) (malformed more : ℕ) → malformed ≡ malformed_in turns → more ≡ malformed_count turn.incoming
    → malformed + more ≡ malformed_in (turns ++ (turn ∷ []))
one_counted turns turn malformed more is one =
    ap (λ n. n + more) is ∙ ap (λ n. malformed_in turns + n) (one ∙ sym (add-zero (malformed_count turn.incoming)))
    ∙ sym (malformed_in-append turns (turn ∷ []))

within : {count bound : ℕ} (n : ℕ) → n ≡ count → count < bound → n < bound
within {bound = bound} n is few = subst (λ k. k < bound) (sym is) few

-- what holds of a disk and a brick holds of those that are the same
pub same_disk : {a b : Layout} {me you : BrickId} (P : Setting → BrickId → Type 0) → a ≡ b → me ≡ you → P (coding a) me → P (coding b) you
same_disk {b = b} {me = me} P at same p = subst (λ (x : BrickId). P (coding b) x) same (subst (λ (l : Layout). P (coding l) me) at p)

-- one that begins to serve has no client
pub fresh_begun : (node : machine.Node) (from : Serving) → from ≡ begun node → HasNoClient from
fresh_begun node from is = subst HasNoClient (sym is) (λ seq above. refl)

module _ (setting : Setting) (me : BrickId) where
  -- none
  pub HasServed-none : (from to : Serving) (outside : Outside) → to ≡ from → HasServed setting me from to outside outside 0 0
  HasServed-none from to outside same =
      record {
        turns = [];
        count_is = refl;
        runs = subst (λ (s : Serving). RunsTurns setting me from s outside outside []) (sym same) (RunsTurns-none setting me from outside);
        malformed_is = refl;
      }

  -- one more
  pub HasServed-more : (from mid to : Serving) (before between after : Outside) (count malformed more : ℕ)
      → HasServed setting me from mid before between count malformed → TakesTurn setting me mid to between after (Ok more)
      → HasServed setting me from to before after (count + 1) (malformed + more)
  HasServed-more from mid to before between after count malformed more p (turn, runs, is) =
      record {
        turns = p.turns ++ (turn ∷ []);
        count_is = one_longer p.turns turn count p.count_is;
        runs = RunsTurns-more setting me from mid to before between after p.turns (turn ∷ []) p.runs runs;
        malformed_is = one_counted p.turns turn malformed more p.malformed_is is;
      }

  module _ (node : machine.Node) (before between after : Outside) (count bound : ℕ) where
    -- all turns were taken
    pub served_all : (to : Serving) (malformed : ℕ) → HasServed setting me (begun node) to before after count malformed
        → IsServed setting me node to.node before after count (Ok malformed)
    served_all to malformed p = record { to = to; node_is = refl; serves = (p.turns, p.count_is, p.runs, p.malformed_is) }

    -- one of them was stopped
    pub served_stop : (mid to : Serving) (malformed : ℕ) (fault : ServeFault) → HasServed setting me (begun node) mid before between count malformed
        → count < bound → Stops setting me mid to between after [] fault → IsServed setting me node to.node before after bound (Err fault)
    served_stop mid to malformed fault p few stop =
        record {
          to = to;
          node_is = refl;
          serves = inr (
            p.turns,
            within (length p.turns) p.count_is few,
            Stops-more setting me (begun node) mid to before between after p.turns fault p.runs stop,
          );
        }

  -- no turn was, since no memory was left
  pub served_nothing : (node : machine.Node) (outside : Outside) (bound : ℕ) → IsServed setting me node node outside outside bound (Err NoMemory)
  served_nothing node outside bound =
      record {
        to = begun node;
        node_is = refl;
        serves = inl (record { no_memory = refl; left = refl; untouched = refl });
      }

  -- a brick that was not halted is not said to have been
  pub not_halted : (node node_after : machine.Node) (before after : Outside) (count : ℕ) (r : Result ℕ ServeFault)
      → IsServed setting me node node_after before after count r → r ≡ Err Halted → ⊥
  not_halted node node_after before after count r is e =
      elim (subst (λ (s : Result ℕ ServeFault). IsServed setting me node node_after before after count s) e is).serves [
        | inl none ↦ absurd (let same : Halted ≡ NoMemory = none.no_memory in cc)
        | inr stopped ↦ stopped.2
      ]

-- a run that nothing failed reaches its turns, or no memory was left
pub sound_end : (r : Result ℕ ServeFault) → (r ≡ Err Disk → ⊥) → (r ≡ Err Link → ⊥) → (r ≡ Err Clock → ⊥) → (r ≡ Err Halted → ⊥)
    → IsOk r ⊎ (r ≡ Err NoMemory)
sound_end (Ok x) disk link clock halted = inl refl
sound_end (Err Disk) disk link clock halted = absurd (disk refl)
sound_end (Err Link) disk link clock halted = absurd (link refl)
sound_end (Err Clock) disk link clock halted = absurd (clock refl)
sound_end (Err Halted) disk link clock halted = absurd (halted refl)
sound_end (Err NoMemory) disk link clock halted = inr refl
