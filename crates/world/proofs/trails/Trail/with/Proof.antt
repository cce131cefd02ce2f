-- The events of a trail that a line follows are those that are known of it.
use mathlib.Core.Path.{refl}
use mathlib.Core.List.{[], ◌∷◌}
use seplogic.Ra.Ura.{Ura}
use mir.Syntax.{named}
use mir.Val.{Val, vptr, vstruct, vnil}
use base.Logic.{SProp, ent}
use base.Fml.{Fml}
use prog.Memory.{Memory}
use prog.Routine.{Routine}
use prog.Wp.{Calls, Loops, WpFn, Tables}
use types.Logic.{Logic}
use contract.Lifetimes.{Lfts, Shares}
use contract.Monad.{Fun}
use contract.Running.{tables, tables_of}
use sound.WpLaws.{WpFn-mono}
use types.Kit.{‵, raw, ◌$◌, ◌∵◌, !, qed, move, suffices, done}
use types.Run.{no_more, returns, enter}
use types.Part.{agg}
use types.ByLocal.{alloc_all, pass_all, free_all, look_at, sets}
use denote.Exit.{yes}
use denote.RattleType.{owns}
use denote.Ref.{shr_vals, shr_Tells}
use denote.Shadow.{pure_i}
use denote.Signature.{plain, types_at}
use denote.Triple.Walked.{needs}
use denote.Triple.Entry.{on_entry, alive, Args}
use denote.Triple.Spec.{Meets, triple_of}
use denote.Triple.Table.{entered}
use denote.Triple.Walked.{says, stay_none_ref, Stays, walk_of, Walks, ends_at, walked, Goes-none_ref, walk_Meets}
use Rattle.world.specs.contracts.trails.Trail.with.Key.{name as key}
use Rattle.world.specs.contracts.trails.Trail.with as f
use Rattle.world.proofs.trails.Trail.with.Statement as stated
use Rattle.world.proofs.trails.Trail.with.Code as code
use Rattle.world.specs.contracts.trails.Trail as made
use Rattle.world.specs.contracts.trails.Shelf as shelf
use Rattle.layout.specs.contracts.layouts.Layout as layout
use Rattle.lines.specs.contracts.forms.Line as line
use Rattle.world.specs.contracts.simulations.Outcome as outcome
use Rattle.world.specs.contracts.simulations.Simulation as state
use Rattle.world.specs.Runs.{with_events, world_at}
use Rattle.world.specs.Shown.{Comes}

abbrev stayed : Stays (f.ended).signature.params (f.ended).kept
stayed = (stay_none_ref (0 ∷ []) tt (plain (λ _. made.the_row)) yes, (stay_none_ref (1 ∷ []) tt (plain (λ _. shelf.the_row)) yes, (stay_none_ref (2 ∷ []) tt (plain (λ _. layout.the_row)) yes, (stay_none_ref (3 ∷ []) tt (plain (λ _. line.the_row)) yes, (stay_none_ref (4 ∷ []) tt (plain (λ _. outcome.the_row)) yes, (stay_none_ref (5 ∷ []) tt (plain (λ _. state.the_row)) yes, tt))))))

module _ {M : Type 1} {𝓤 : Ura M} (𝓛 : Logic 𝓤) (mem : Memory → SProp 𝓤) (run : Routine → Fun 𝓤) (C : Calls 𝓤 𝓛.H) (Λ : Loops 𝓤 𝓛.H) where
  open 𝓛 use {H}

  module _ (κs : Lfts 6) (qs : Shares 6) (a : Args f.signature κs) where
    abbrev p0 : Val
    p0 = vptr a.0.ref_ptr.0 a.0.ref_ptr.1

    abbrev p1 : Val
    p1 = vptr a.1.0.ref_ptr.0 a.1.0.ref_ptr.1

    abbrev p2 : Val
    p2 = vptr a.1.1.0.ref_ptr.0 a.1.1.0.ref_ptr.1

    abbrev p3 : Val
    p3 = vptr a.1.1.1.0.ref_ptr.0 a.1.1.1.0.ref_ptr.1

    abbrev p4 : Val
    p4 = vptr a.1.1.1.1.0.ref_ptr.0 a.1.1.1.1.0.ref_ptr.1

    abbrev p5 : Val
    p5 = vptr a.1.1.1.1.1.0.ref_ptr.0 a.1.1.1.1.1.0.ref_ptr.1

    abbrev bound : (walk_of 𝓛 f.ended stayed (f.clauses 𝓛 mem run)).Ghost
    bound = ((κs, qs, tt, a, (p0 ∷ [], (p1 ∷ [], (p2 ∷ [], (p3 ∷ [], (p4 ∷ [], (p5 ∷ [], tt))))))), tt)

    abbrev passed : Fml
    passed = owns (types_at f.signature.params κs) a (p0 ∷ [], (p1 ∷ [], (p2 ∷ [], (p3 ∷ [], (p4 ∷ [], (p5 ∷ [], tt))))))

    abbrev wanted : Type 0
    wanted = Comes a.1.1.0.now (world_at a.1.1.0.now a.0.now.course) a.1.0.now.disks
        a.1.1.1.1.1.0.now a.1.1.1.0.now a.1.1.1.1.0.now

    walk : wanted → ent 𝓤 (on_entry 𝓛 f.signature κs qs a (p0 ∷ [], (p1 ∷ [], (p2 ∷ [], (p3 ∷ [], (p4 ∷ [], (p5 ∷ [], tt)))))))
        (WpFn 𝓤 H C Λ code.function (p0 ∷ p1 ∷ p2 ∷ p3 ∷ p4 ∷ p5 ∷ []) ((walk_of 𝓛 f.ended stayed (f.clauses 𝓛 mem run)).post bound))
    walk (events, comes) =
        qed 𝓛 (raw (alive 𝓛 f.signature κs qs) ∷ ‵ passed ∷ []) ∵ enter ! C Λ code.function (p0 ∷ p1 ∷ p2 ∷ p3 ∷ p4 ∷ p5 ∷ []) _ $
        alloc_all ! (λ l. pass_all ! refl ((tt, tt), ((tt, tt), ((tt, tt), ((tt, tt), ((tt, tt), ((tt, tt), tt)))))) $ sets ! (agg ! (no_more !)) refl (tt, tt) $
        returns ! (look_at ! 0 refl) $ free_all ! refl $
        suffices ! _ (ends_at 𝓛 f.ended stayed (f.clauses 𝓛 mem run) bound (vstruct vnil) (record { course = with_events a.0.now.course events }) (tt, (tt, (tt, (tt, (tt, (tt, tt)))))) (tt, (tt, (tt, (tt, (tt, (tt, tt))))))) $
        says ! (events, comes, refl) $ pure_i ! (made.the_row.own_val (record { course = with_events a.0.now.course events }) (vstruct vnil ∷ [])) ((λ vss. (tt, tt)), tt) ((tt, (refl, tt)), tt) $
        move ! (1 ∷ 2 ∷ 0 ∷ []) $ done !)

  walks : Walks 𝓛 f.ended stayed (WpFn 𝓤 H C Λ code.function) (f.clauses 𝓛 mem run)
  walks =
      walked 𝓛 f.ended stayed (f.clauses 𝓛 mem run) (WpFn 𝓤 H C Λ code.function) (λ κs. (shr_vals, (shr_vals, (shr_vals, (shr_vals, (shr_vals, (shr_vals, tt)))))))
      (λ κs. (shr_Tells (named 0) κs.0 made.the_row, (shr_Tells (named 1) κs.1.0 shelf.the_row, (shr_Tells (named 2) κs.1.1.0 layout.the_row, (shr_Tells (named 3) κs.1.1.1.0 line.the_row, (shr_Tells (named 4) κs.1.1.1.1.0 outcome.the_row, (shr_Tells (named 5) κs.1.1.1.1.1.0 state.the_row, tt)))))))
      (λ κs qs bounds a g are. needs 𝓤 (wanted κs qs a) _ (walk κs qs a))

meets : {M : Type 1} {𝓤 : Ura M} (𝓛 : Logic 𝓤) (mem : Memory → SProp 𝓤) (run : Routine → Fun 𝓤) (𝓣 : Tables 𝓤 𝓛.H)
    → Meets 𝓛 f.signature (WpFn 𝓤 𝓛.H 𝓣.C 𝓣.Λ code.function) (f.spec 𝓛 mem run)
meets {𝓤 = 𝓤} 𝓛 mem run 𝓣 =
    walk_Meets 𝓛 f.ended stayed (Goes-none_ref 𝓛 6 (0 ∷ []) tt (plain (λ _. made.the_row)) yes, (Goes-none_ref 𝓛 6 (1 ∷ []) tt (plain (λ _. shelf.the_row)) yes, (Goes-none_ref 𝓛 6 (2 ∷ []) tt (plain (λ _. layout.the_row)) yes, (Goes-none_ref 𝓛 6 (3 ∷ []) tt (plain (λ _. line.the_row)) yes, (Goes-none_ref 𝓛 6 (4 ∷ []) tt (plain (λ _. outcome.the_row)) yes, (Goes-none_ref 𝓛 6 (5 ∷ []) tt (plain (λ _. state.the_row)) yes, tt)))))) (f.clauses 𝓛 mem run) (WpFn 𝓤 𝓛.H 𝓣.C 𝓣.Λ code.function)
    (WpFn-mono 𝓤 𝓛.H 𝓛.laws 𝓣 code.function) (walks 𝓛 mem run 𝓣.C 𝓣.Λ)

pub with_spec : {M : Type 1} → stated.statement M
unfolding tables_of
with_spec 𝓤 𝓛 𝓜 𝓡 wired =
    entered 𝓤 𝓛.H (triple_of 𝓛 f.signature (f.spec 𝓛 𝓜.mem 𝓡.returns))
    (tables 𝓤 𝓛.H 𝓜 𝓡 𝓡.env).C (tables 𝓤 𝓛.H 𝓜 𝓡 𝓡.env).Λ key code.function (code.unfolded 𝓤 𝓛.H 𝓜 𝓡 wired)
    (meets 𝓛 𝓜.mem 𝓡.returns (tables_of 𝓤 𝓛.H 𝓜 (tables 𝓤 𝓛.H 𝓜 𝓡 𝓡.env)))
