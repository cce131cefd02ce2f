-- What a brick dropped with a view is replaced: all stripes are said to be kept in the next view, so of each stripe a version of that stands.
use Rattle.std.proofs.Common.{◌≡◌, ℕ, ◌+◌, ◌-◌, ◌<◌, ◌≤◌, Bool, true, false, ◌⊎◌, inl, inr, ⊎_elim, Some, refl, sym, subst, arith, nat_lt}
use Rattle.std.proofs.lemmas.Bool.{cond_both, ltb-true, ltb-false}
use Rattle.fab_base.specs.declared.stamps.Stamp.{Stamp}
use Rattle.protocol.specs.Settings.{Setting, IsSound}
use Rattle.protocol.specs.Views.{Views, Learnt, view_of, group_in}
use Rattle.protocol.specs.Nodes.{view_at}
use Rattle.protocol.specs.Worlds.{World}
use Rattle.view_laws.specs.Syncs.{IsSaidSynced, SyncsAreSaidIn}
use Rattle.protocol_laws.specs.Laws.{first_kept_in, DroppedAreReplaced}
use Rattle.protocol_laws.proofs.Books.{Books}
use Rattle.protocol_laws.proofs.OldFound.{synced_stands}
use Rattle.protocol_laws.proofs.Said.{Stamping, Said, Stands}

-- what is not above a number is below it, or is that
at_most : (e f : ℕ) → e ≤ f → (e < f) ⊎ (e ≡ f)
at_most e f most = by (nat_lt e f) refl
  where
    by : (t : Bool) → nat_lt e f ≡ t → (e < f) ⊎ (e ≡ f)
    by true below = inl (ltb-true e f below)
    by false isnt = let upper = ltb-false e f isnt in inr (omega (arith, upper, most))

module _ (setting : Setting) (views : Views) (sound : IsSound setting) (w : World) (stamps : Stamping) (books : Books setting w) (said : Said setting views w stamps) where
  -- the view after one whose versions a brick keeps no more is said to be synced
  next_synced : SyncsAreSaidIn setting.layout w → (number view brick : ℕ) → view < first_kept_in w number brick → IsSaidSynced w number (view + 1)
  next_synced syncs number view brick =
      let learnt : Learnt = (w.nodes brick).learnt number in
      cond_both learnt.synced learnt.view.number.0 (learnt.view.number.0 - 1) (λ (first : ℕ). view < first → IsSaidSynced w number (view + 1))
      (λ synced below. now_or_before synced below)
      (λ isnt below. syncs.learnt brick number (view + 1) (omega arith) (omega (arith, below)))
    where
      now_or_before : ((w.nodes brick).learnt number).synced ≡ true → view < view_at (w.nodes brick) number → IsSaidSynced w number (view + 1)
      now_or_before synced below = ⊎_elim
          (λ (before : view + 1 < view_at (w.nodes brick) number). syncs.learnt brick number (view + 1) (omega arith) before)
          (λ (now : view + 1 ≡ view_at (w.nodes brick) number).
          subst (λ (e : ℕ). IsSaidSynced w number e) (sym now) (syncs.synced brick number synced))
          (at_most (view + 1) (view_at (w.nodes brick) number) (omega (arith, below)))

  pub dropped_replaced : SyncsAreSaidIn setting.layout w → DroppedAreReplaced setting views w
  dropped_replaced syncs number view stripe brick group next below at within next_is =
      let standing : (v : Stamp) × (view_of v ≡ view + 1) × Stands setting views w number stripe v
      = synced_stands setting views sound w stamps books said number (view + 1) stripe group at (inr within) (next_synced syncs number view brick below) in
      let of = standing.1 in
      (standing.0, of, standing.2 next (subst (λ (e : ℕ). group_in setting.layout views number e ≡ Some next) (sym of) next_is))
