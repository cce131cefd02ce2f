-- One turn, by what was done in it.
use Rattle.std.proofs.Common.{◌≡◌, ℕ, List, [], ◌∷◌, Option, Result, Ok, Err, sym, ap, ◌∙◌, subst, append-nil, inl, inr, arith}
use Rattle.fab_base.specs.declared.identities.BrickId.{BrickId}
use Rattle.fab_io.specs.declared.links.Datagram.{Datagram}
use Rattle.fab_io.specs.Datagrams.{Stays, Grows}
use Rattle.fab_io.specs.Moments.{Passes}
use Rattle.fab_io.proofs.Told.{Grows-none}
use Rattle.messages.specs.declared.packets.Message.{Message}
use Rattle.protocol.specs.Settings.{Setting}
use Rattle.serving.specs.declared.faults.ServeFault.{ServeFault}
use Rattle.serving.specs.declared.incomings.Incoming.{Incoming}
use Rattle.serving.specs.declared.ports.Ports.{Ports}
use Rattle.serving.specs.declared.faults.ServeFault.TheVariants.{Disk, Halted, Link, Clock, NoMemory}
use Rattle.serving.specs.Datagrams.{datagrams_of, GrowsFront, Looked}
use Rattle.serving.specs.Incomings.{IsIncoming}
use Rattle.serving.specs.Ports.{ports_of}
use Rattle.serving.specs.Serves.{Outside, Does, RunsTurns, StopsBefore, StopsSending, Stops}
use Rattle.serving.specs.Servings.{Serving, Served, served}
use Rattle.serving.specs.Turns.{Turn}
use Rattle.serving.proofs.Looks.{Stays-trans, Grows-stays, Looked-stays}

-- what came is read with the ports of this layout, at this brick
pub read_as : (ports those : Ports) (me that : BrickId) (came : Option Datagram) (incoming : Incoming) → ports ≡ those → me ≡ that
    → IsIncoming ports me came incoming → IsIncoming those that came incoming
read_as ports those me that came incoming at same is =
    subst (λ (p : Ports). IsIncoming p that came incoming) at (subst (λ (b : BrickId). IsIncoming ports b came incoming) same is)

module _ (setting : Setting) (me : BrickId) (from to : Serving) (before after : Outside) (waiting sent : Option (List Datagram)) (turn : Turn)
    (is : IsIncoming (ports_of setting.layout) me turn.came turn.incoming) (looked : Looked before.waiting waiting (turn.came ∷ []))
    (calm : Stays before.sent sent) (passes : Passes before.coming after.coming (turn.now ∷ [])) (quiet : Stays waiting after.waiting) where
  abbrev does : Served
  does = served setting me from turn.incoming turn.now

  -- all was done
  pub turn_taken : {T : Type 0} (x : T) → Does from to sent after.sent does (Ok x) → RunsTurns setting me from to before after (turn ∷ [])
  turn_taken x done =
      record {
        read = (is, tt);
        looked = Looked-stays before.waiting waiting after.waiting (turn.came ∷ []) looked quiet;
        moments = passes;
        left = done.0;
        sent = subst (λ (l : List (ℕ × Message)). Grows before.sent after.sent (datagrams_of l)) (sym (append-nil does.sends))
            (Grows-stays before.sent sent after.sent (datagrams_of does.sends) calm done.1);
      }

  -- nothing was
  left_alone : to ≡ from → Stays sent after.sent → StopsBefore setting me from to before after []
  left_alone same stays =
      record {
        lost = turn.came ∷ [];
        unused = turn.now ∷ [];
        one_look = omega arith;
        one_moment = omega arith;
        read = tt;
        looked = Looked-stays before.waiting waiting after.waiting (turn.came ∷ []) looked quiet;
        moments = passes;
        left = same;
        sent = Grows-none before.sent after.sent (Stays-trans before.sent sent after.sent calm stays);
      }

  -- some of its datagrams were not sent
  cut_short : to ≡ does.serving → GrowsFront sent after.sent (datagrams_of does.sends) → StopsSending setting me from to before after []
  cut_short same some =
      record {
        last = turn;
        front = some.front;
        rest = some.rest;
        read = (is, tt);
        looked = Looked-stays before.waiting waiting after.waiting (turn.came ∷ []) looked quiet;
        moments = passes;
        left = same;
        parts = ap datagrams_of (append-nil does.sends) ∙ some.parts;
        sent = Grows-stays before.sent sent after.sent some.front calm some.grows;
      }

  -- it was stopped
  pub turn_stopped : {T : Type 0} (r : Result T ServeFault) (fault : ServeFault) → r ≡ Err fault → Does from to sent after.sent does r
      → Stops setting me from to before after [] fault
  turn_stopped {T} r fault e done = stopped fault (subst (λ (s : Result T ServeFault). Does from to sent after.sent does s) e done)
    where
      stopped : (f : ServeFault) → Does {T = T} from to sent after.sent does (Err f) → Stops setting me from to before after [] f
      stopped Disk d = left_alone d.0 d.1
      stopped Link d = inr (cut_short d.0 d.1)
      stopped NoMemory d = elim d [ inl left ↦ inl (left_alone left.0 left.1) | inr sent ↦ inr (cut_short sent.0 sent.1) ]
      stopped Clock d = absurd d
      stopped Halted d = absurd d
