-- What a quorum of replies to a recovery decides: nothing that a quorum holds, or ever will, lies between the greatest version found and the
-- recovery's stamp; nor that version itself, where too few blocks of it were found.
use Rattle.std.proofs.lemmas.Option.{same_Some}
use Rattle.protocol_laws.proofs.Tops.{view_between, floor_least, view_before, before_floor, from_floor}
use Rattle.protocol_laws.proofs.OwnStamps.{own_in, asked_is, asked_in, asked_m, ahead_call, back_call, back_is}
use Rattle.std.proofs.Common.{◌≡◌, ℕ, ◌+◌, ◌<◌, ◌≤◌, Bool, true, false, not, List, [], ◌∷◌, length, Option, Some, None, refl, sym, ap, ◌∙◌, subst, ⊎_elim, arith, ◌&&◌, ◌-◌}
use Rattle.std.specs.Prelude.{filter, if◌then◌else◌}
use Rattle.std.specs.Option.{option_map}
use Rattle.std.proofs.lemmas.Bool.{cond_both, false≢true, cases_Bool, not-true, not_from_false}
use Rattle.std.proofs.lemmas.List.Filters.{length-filter_both}
use Rattle.fab_base.specs.declared.identities.BrickId.{BrickId}
use Rattle.fab_base.specs.declared.stamps.Stamp.{Stamp}
use Rattle.fab_base.specs.Stamps.{stamp_below, first_stamp}
use Rattle.fab_base.proofs.StampOrder.{stamp_not_below_trans, stamp_neither_below, stamp_same_refl, stamp_same_true, stamp_below_asym, stamp_below_irrefl}
use Rattle.fab_base.specs.declared.asks.Ask.{Ask}
use Rattle.messages.specs.declared.requests.Version.{Version}
use Rattle.quorum.specs.Quorums.{count, both, IsWithinLimits}
use Rattle.quorum.proofs.Counts.{count_full, count_both, count_empty}
use Rattle.fab_base.specs.Layouts.{Group}
use Rattle.quorum.specs.Quorums.{quorum_of}
use Rattle.protocol.specs.Views.{Views, view_of, floor_of, group_in}
use Rattle.protocol.specs.Settings.{Setting, IsSound}
use Rattle.protocol.specs.Replicas.{is_wanted}
use Rattle.protocol.specs.declared.phases.Counted.{Counted}
use Rattle.messages.specs.declared.requests.Look.{Look}
use Rattle.messages.specs.declared.requests.Look.TheVariants.{Below, At}
use Rattle.messages.specs.declared.requests.Want.{Want}
use Rattle.messages.specs.declared.requests.Want.TheVariants.{All}
use Rattle.protocol.specs.declared.phases.Phase.{Phase}
use Rattle.protocol.specs.declared.phases.Phase.TheVariants.{Descends, Bases, Looks, LooksAt, Orders, OrdersAt, Recovers, LooksBack, Modifies, Stores}
use Rattle.protocol.specs.Coordinators.{Coordinator, told_in, told_stamp, finds, bytes_of, pieces_at, greater_stamp, greatest_found, greatest_refuser, asked_group, looks_back}
use Rattle.protocol.specs.Worlds.{World, Operation}
use Rattle.fab_base.specs.Layouts.{brick_at}
use Rattle.protocol_laws.specs.Laws.{AtQuorum, IsBlocked, top_in}
use Rattle.protocol_laws.proofs.Books.{Books, CallBooks, IsCall}
use Rattle.protocol_laws.proofs.Logs.{IsWithin, below_above}
use Rattle.protocol_laws.proofs.Blocking.{twice_quorum, passes_by, passes, blocked_by, blocked_never_stands}
use Rattle.protocol_laws.proofs.Said.{Stamping, Said, IsMadeOrFirst, CallSays, CountedSays, EachCounted, AreOnce, look_of, want_of, is_looked, MadeOn, base_in, bound_in, AreBlocked}
use Rattle.protocol_laws.proofs.Counting.{each_then, each_both, each_filter, once_filter, at_seats, TellsAtMost, found_most, found_one, finds_told, told_finds, IsPieceOf, are_pieces, pieces_length, NoneStops}
use Rattle.protocol_laws.proofs.Stampings.{above_first}
use Rattle.protocol_laws.proofs.Decisions.{ReadsAt, told_version_is, content_formed, all_read, bound_cases, needed}
use Rattle.protocol.proofs.Blocks.{IsContent}

-- nothing is told where nothing is found
none_told : (found : Option Version) → option_map (λ (z : Version). z.stamp) found ≡ None → found ≡ None
none_told None is = refl
none_told (Some version) is = cc

-- neither of two stamps is there, where the greater is not
none_greater : (a b : Option Stamp) → greater_stamp a b ≡ None → a ≡ None
none_greater None b is = refl
none_greater (Some a) None is = is
none_greater (Some a) (Some b) is =
    cond_both (stamp_below a b) (Some b) (Some a) (λ (z : Option Stamp). z ≡ None → Some a ≡ None) (λ less e. cc) (λ above e. cc) is

-- neither of two stamps is there, where the greater is not
both_none : (a b : Option Stamp) → greater_stamp a b ≡ None → (a ≡ None) × (b ≡ None)
both_none None b is = (refl, is)
both_none (Some a) b is = absurd (let never : Some a ≡ None = none_greater (Some a) b is in cc)

module _ (setting : Setting) (views : Views) (sound : IsSound setting) (w : World) (stamps : Stamping) (me : BrickId) (c : Coordinator)
    (books : Books setting w) (said : Said setting views w stamps) (is : IsCall w me.0 c.call.seq c)
    (counted : List Counted) (each : EachCounted (CountedSays setting views w me.0 c) counted) (once : AreOnce counted)
    (many : quorum_of (asked_group c) ≤ length counted) (look : Look)
    (all : EachCounted (ReadsAt setting views sound w stamps me c books said is counted each once many look) counted)
    (v : Stamp) (made : IsMadeOrFirst w (books.calls me.0 c.call.seq c is).operation.ask.group.0
    (books.calls me.0 c.call.seq c is).operation.ask.stripe.0 v) (all_wanted : want_of c.phase ≡ All) where
  abbrev its_ask : Ask
  its_ask = (books.calls me.0 c.call.seq c is).operation.ask

  -- a reply that finds a version tells its seat's block
  piece_at : (x : Counted) → ReadsAt setting views sound w stamps me c books said is counted each once many look x → finds v x ≡ true
      → IsPieceOf setting.code (asked_group c).m (length (asked_group c).members) (w.contents its_ask.group.0 its_ask.stripe.0 v) x
  piece_at x reads is_found =
      let told = told_version_is x reads.found v reads.found_is (finds_told v x.seat x.brick x.reply is_found) in (
        reads.within,
        ap bytes_of (reads.found_is ∙ told.1)
            ∙ reads.block told.0 told.1 (ap (λ (z : Want). is_wanted z x.seat) all_wanted)
            ∙ ap (λ (t : Stamp). setting.code.encode (asked_group c).m (w.contents its_ask.group.0 its_ask.stripe.0 t) x.seat) told.2,
      )

  -- enough blocks of a version decode to its content
  pub pieces_decode : c.group.m ≤ length (pieces_at v counted)
      → setting.code.decode c.group.m (pieces_at v counted) ≡ w.contents its_ask.group.0 its_ask.stripe.0 v
  pieces_decode enough =
      let group : Group = asked_group c in
      let limits : IsWithinLimits group.m (length group.members)
      = said.limits c.call.group.0 c.call.view.0 group (asked_is setting views w stamps books said me.0 c.call.seq c is) in
      let formed : IsContent group.m setting.layout.block (w.contents its_ask.group.0 its_ask.stripe.0 v)
      = content_formed setting views sound w stamps me c books said is counted each once many v made in
      subst (λ (m : ℕ). setting.code.decode m (pieces_at v counted) ≡ w.contents its_ask.group.0 its_ask.stripe.0 v) (asked_m c)
      (sound.decodes group.m (length group.members) limits (w.contents its_ask.group.0 its_ask.stripe.0 v) (pieces_at v counted) formed.0 formed.1
      (are_pieces setting.code group.m (length group.members) (w.contents its_ask.group.0 its_ask.stripe.0 v) (filter (finds v) counted)
      (each_then (λ x. ReadsAt setting views sound w stamps me c books said is counted each once many look x × (finds v x ≡ true))
      (IsPieceOf setting.code group.m (length group.members) (w.contents its_ask.group.0 its_ask.stripe.0 v)) (filter (finds v) counted)
      (λ x h. piece_at x h.0 h.1)
      (each_filter (ReadsAt setting views sound w stamps me c books said is counted each once many look) (finds v) counted all))
      (once_filter (finds v) counted once))
      (subst (λ (m : ℕ). m ≤ length (pieces_at v counted)) (sym (asked_m c)) enough))

module _ (setting : Setting) (views : Views) (sound : IsSound setting) (w : World) (stamps : Stamping) (me : BrickId) (c : Coordinator)
    (books : Books setting w) (said : Said setting views w stamps) (is : IsCall w me.0 c.call.seq c)
    (counted : List Counted) (each : EachCounted (CountedSays setting views w me.0 c) counted) (once : AreOnce counted)
    (many : quorum_of (asked_group c) ≤ length counted) (bound : Stamp) (looks : look_of c.phase c.stamp ≡ Some (Below bound))
    (all : EachCounted (ReadsAt setting views sound w stamps me c books said is counted each once many (Below bound)) counted) where
  -- the group as those keep it that are asked
  abbrev asked : Group
  asked = asked_group c

  abbrev operation : Operation
  operation = (books.calls me.0 c.call.seq c is).operation

  call_says : CallSays setting views w stamps me.0 c.call.seq c
  call_says = said.calls me.0 c.call.seq c is

  -- what a reply reads
  abbrev Looked : Counted → Type 0
  Looked x = ReadsAt setting views sound w stamps me c books said is counted each once many (Below bound) x

  abbrev most_of : ℕ → Stamp
  most_of seat = top_in w operation.ask.group.0 operation.ask.stripe.0 (brick_at asked seat)

  -- what each member that replied has come to
  abbrev need : Stamp
  need = needed setting views sound w stamps me c books said is counted each once many

  -- the bound is no higher than that, and that is no higher than the operation's stamp
  bound_need : stamp_below need bound ≡ false
  bound_need = by c.phase refl looks
    where
      by : (p : Phase) → c.phase ≡ p → look_of p c.stamp ≡ Some (Below bound) → stamp_below (if looks_back c.phase then floor_of c.stamp.view.0 else c.stamp) bound ≡ false
      by (OrdersAt j) phase some = own (ap looks_back phase) (let same : c.stamp ≡ bound = cc in same)
        where
          own : looks_back c.phase ≡ false → c.stamp ≡ bound → stamp_below (if looks_back c.phase then floor_of c.stamp.view.0 else c.stamp) bound ≡ false
          own ahead same =
              subst (λ (b : Bool). stamp_below (if b then floor_of c.stamp.view.0 else c.stamp) bound ≡ false) (sym ahead)
              (subst (λ (t : Stamp). stamp_below c.stamp t ≡ false) same (stamp_below_irrefl c.stamp))
      by Recovers phase some =
          subst (λ (b : Bool). stamp_below (if b then floor_of c.stamp.view.0 else c.stamp) bound ≡ false) (sym (ap looks_back phase))
          (subst (λ (t : Stamp). stamp_below c.stamp t ≡ false) (let same : c.stamp ≡ bound = cc in same) (stamp_below_irrefl c.stamp))
      by (Descends b) phase some =
          subst (λ (z : Bool). stamp_below (if z then floor_of c.stamp.view.0 else c.stamp) bound ≡ false) (sym (ap looks_back phase))
          (call_says.from.most bound (phase ∙ ap Descends (let same : b ≡ bound = cc in same)))
      by (LooksBack None) phase some =
          subst (λ (z : Bool). stamp_below (if z then floor_of c.stamp.view.0 else c.stamp) bound ≡ false) (sym (ap looks_back phase))
          (subst (λ (t : Stamp). stamp_below (floor_of c.stamp.view.0) t ≡ false) (let same : floor_of c.stamp.view.0 ≡ bound = cc in same)
          (stamp_below_irrefl (floor_of c.stamp.view.0)))
      by (LooksBack (Some b)) phase some =
          let same : b ≡ bound = cc in
          let of = (call_says.back (Some b) phase).bounded b refl in
          subst (λ (z : Bool). stamp_below (if z then floor_of c.stamp.view.0 else c.stamp) bound ≡ false) (sym (ap looks_back phase))
          (subst (λ (t : Stamp). stamp_below (floor_of c.stamp.view.0) t ≡ false) same
          (stamp_below_asym b (floor_of c.stamp.view.0) (before_floor b c.stamp.view.0 (omega (arith, of)))))
      by (Bases b) phase some = cc
      by Looks phase some = cc
      by (LooksAt j) phase some = cc
      by Orders phase some = cc
      by (Modifies b j) phase some = cc
      by Stores phase some = cc

  need_most : stamp_below c.stamp need ≡ false
  need_most =
      cond_both (looks_back c.phase) (floor_of c.stamp.view.0) c.stamp (λ (t : Stamp). stamp_below c.stamp t ≡ false)
      (λ back. floor_least c.stamp.view.0 c.stamp (own_in setting views w stamps books said me.0 c.call.seq c is)) (λ ahead. stamp_below_irrefl c.stamp)

  -- what is below the bound is below both
  below_need : (d : Stamp) → stamp_below d bound ≡ true → stamp_below d need ≡ true
  below_need d less = below_above d bound need less bound_need

  bound_most : (d : Stamp) → stamp_below d bound ≡ true → stamp_below d c.stamp ≡ true
  bound_most d less = below_above d need c.stamp (below_need d less) need_most

  -- what is above a version of the call's view and below the bound is of that view
  in_view : (v d : Stamp) → view_of v ≡ c.call.view.0 → stamp_below v d ≡ true → stamp_below d bound ≡ true → view_of d ≡ c.call.view.0
  in_view v d of above less = by (looks_back c.phase) refl
    where
      by : (b : Bool) → looks_back c.phase ≡ b → view_of d ≡ c.call.view.0
      by false ahead =
          view_between v d c.stamp c.call.view.0 of
          (own_in setting views w stamps books said me.0 c.call.seq c is ∙ sym (ahead_call setting views w stamps books said me.0 c.call.seq c is ahead))
          (stamp_below_asym v d above) (bound_most d less)
      by true back =
          let bounded = back_is c.phase back in
          let before : c.call.view.0 ≡ c.stamp.view.0 - 1 = back_call setting views w stamps books said me.0 c.call.seq c is back in
          view_before v d c.stamp.view.0 (call_says.back bounded.0 bounded.1).view (of ∙ before) above
          (subst (λ (b : Bool). stamp_below d (if b then floor_of c.stamp.view.0 else c.stamp) ≡ true) back (below_need d less))
          ∙ sym before

  -- a member that has come as far passes by what it does not hold below that
  passes_at : (x : Counted) (d : Stamp) → Looked x → stamp_below d need ≡ true → w.held (brick_at asked x.seat) operation.ask.group.0 operation.ask.stripe.0 d ≡ false
      → (x.seat < length asked.members) × (passes_by w operation.ask.group.0 operation.ask.stripe.0 asked d x.seat ≡ true)
  passes_at x d reads less isnt = (
    reads.within,
    passes w operation.ask.group.0 operation.ask.stripe.0 asked d x.seat (below_above d need (most_of x.seat) less reads.top) isnt,
  )

  -- what no member that replied holds below the bound no quorum holds, or ever will
  unheld_blocked : (d : Stamp) → stamp_below d bound ≡ true
      → EachCounted (λ x. Looked x × (w.held (brick_at asked x.seat) operation.ask.group.0 operation.ask.stripe.0 d ≡ false)) counted
      → IsBlocked w operation.ask.group.0 operation.ask.stripe.0 asked d
  unheld_blocked d less none =
      let limits : IsWithinLimits asked.m (length asked.members)
      = said.limits c.call.group.0 c.call.view.0 asked (asked_is setting views w stamps books said me.0 c.call.seq c is) in
      let seats : length counted ≤ count (length asked.members) (passes_by w operation.ask.group.0 operation.ask.stripe.0 asked d)
      = at_seats (length asked.members) counted (passes_by w operation.ask.group.0 operation.ask.stripe.0 asked d)
      (each_then (λ x. Looked x × (w.held (brick_at asked x.seat) operation.ask.group.0 operation.ask.stripe.0 d ≡ false))
      (λ x. (x.seat < length asked.members) × (passes_by w operation.ask.group.0 operation.ask.stripe.0 asked d x.seat ≡ true)) counted
      (λ x h. passes_at x d h.0 (below_need d less) h.1) none)
      once in
      blocked_by w operation.ask.group.0 operation.ask.stripe.0 asked d limits (omega (arith, seats, many, limits.some_block))

  -- nor does a quorum hold anything from the bound up to the operation's stamp
  from_bound : (d : Stamp) (its : Group) → group_in setting.layout views operation.ask.group.0 (view_of d) ≡ Some its → stamp_below d bound ≡ false
      → stamp_below d c.stamp ≡ true → IsBlocked w operation.ask.group.0 operation.ask.stripe.0 its d
  from_bound d its its_is not_less less = ⊎_elim
      (λ (own : bound ≡ c.stamp).
      absurd (false≢true (sym not_less ∙ subst (λ (t : Stamp). stamp_below d t ≡ true) (sym own) less)))
      (λ (lower : bound_in c.phase c.stamp ≡ Some bound).
      let ask = (books.calls me.0 c.call.seq c is).ask in
      subst (λ (a : Ask). IsBlocked w a.group.0 a.stripe.0 its d) ask
      (call_says.covered bound lower d its (ap (λ (a : Ask). group_in setting.layout views a.group.0 (view_of d)) ask ∙ its_is) (not_less, less)))
      (bound_cases c.phase c.stamp bound looks)

  -- its members keep the group in the call's view
  asked_view_in : (d : Stamp) (its : Group) → view_of d ≡ c.call.view.0 → group_in setting.layout views operation.ask.group.0 (view_of d) ≡ Some its → asked ≡ its
  asked_view_in d its of its_is =
      same_Some asked its (sym (asked_in setting views w stamps books said me.0 c.call.seq c is operation.ask.group.0 d
      (ap (λ (a : Ask). a.group.0) (sym (books.calls me.0 c.call.seq c is).ask)) of) ∙ its_is)

  -- where a phase finds nothing, no quorum holds anything of the call's view below the operation's stamp, or ever will
  pub none_blocked : greatest_found counted ≡ None → (d : Stamp) (its : Group) → group_in setting.layout views operation.ask.group.0 (view_of d) ≡ Some its
      → view_of d ≡ c.call.view.0 → stamp_below d c.stamp ≡ true → IsBlocked w operation.ask.group.0 operation.ask.stripe.0 its d
  none_blocked nothing d its its_is of less = ⊎_elim
      (λ (lower : stamp_below d bound ≡ true).
      subst (λ (z : Group). IsBlocked w operation.ask.group.0 operation.ask.stripe.0 z d) (asked_view_in d its of its_is)
      (unheld_blocked d lower (each_then (λ x. Looked x × (told_stamp x.reply ≡ None))
      (λ x. Looked x × (w.held (brick_at asked x.seat) operation.ask.group.0 operation.ask.stripe.0 d ≡ false)) counted
      (λ x h. (h.0, unheld x d h.0 h.1 of lower)) (each_none counted all nothing))))
      (λ (upper : stamp_below d bound ≡ false). from_bound d its its_is upper less)
      (cases_Bool (stamp_below d bound))
    where
      unheld : (x : Counted) (d : Stamp) → Looked x → told_stamp x.reply ≡ None → view_of d ≡ c.call.view.0 → stamp_below d bound ≡ true
          → w.held (brick_at asked x.seat) operation.ask.group.0 operation.ask.stripe.0 d ≡ false
      unheld x d reads none of lower = ⊎_elim
          (λ (held : w.held (brick_at asked x.seat) operation.ask.group.0 operation.ask.stripe.0 d ≡ true).
          absurd (subst (λ (z : Option Version). IsWithin z d)
          (none_told reads.found (sym (ap (option_map (λ (z : Version). z.stamp)) reads.found_is) ∙ none)) (reads.newest d of held lower)))
          (λ (isnt : w.held (brick_at asked x.seat) operation.ask.group.0 operation.ask.stripe.0 d ≡ false). isnt)
          (cases_Bool (w.held (brick_at asked x.seat) operation.ask.group.0 operation.ask.stripe.0 d))

      each_none : (l : List Counted) → EachCounted Looked l → greatest_found l ≡ None → EachCounted (λ x. Looked x × (told_stamp x.reply ≡ None)) l
      each_none [] looked none = tt
      each_none (x ∷ l) looked none =
          let parts = both_none (told_stamp x.reply) (greatest_found l) none in
          ((looked.0, parts.0), each_none l looked.1 parts.1)

  -- so it is in a later view than 1, from the first stamp of that on
  pub nothing_blocks : looks_back c.phase ≡ false → 1 < c.stamp.view.0 → greatest_found counted ≡ None
      → AreBlocked setting views w operation.ask.group.0 operation.ask.stripe.0
      (λ d. (stamp_below d (floor_of c.stamp.view.0) ≡ false) × (stamp_below d c.stamp ≡ true))
  nothing_blocks ahead later nothing d its its_is within =
      none_blocked nothing d its its_is
      (from_floor d c.stamp c.stamp.view.0 later (own_in setting views w stamps books said me.0 c.call.seq c is) within.0 within.1
      ∙ sym (ahead_call setting views w stamps books said me.0 c.call.seq c is ahead)) within.1

module _ (setting : Setting) (views : Views) (sound : IsSound setting) (w : World) (stamps : Stamping) (me : BrickId) (c : Coordinator)
    (books : Books setting w) (said : Said setting views w stamps) (is : IsCall w me.0 c.call.seq c)
    (counted : List Counted) (each : EachCounted (CountedSays setting views w me.0 c) counted) (once : AreOnce counted)
    (many : quorum_of (asked_group c) ≤ length counted) (bound : Stamp) (looks : look_of c.phase c.stamp ≡ Some (Below bound))
    (all : EachCounted (ReadsAt setting views sound w stamps me c books said is counted each once many (Below bound)) counted)
    (v : Stamp) (greatest : greatest_found counted ≡ Some v) where
  -- its group, and its members
  abbrev group : Group
  group = asked_group c

  abbrev its : CallBooks setting w me.0 c.call.seq c
  its = books.calls me.0 c.call.seq c is

  abbrev o : Operation
  o = (books.calls me.0 c.call.seq c is).operation

  says : CallSays setting views w stamps me.0 c.call.seq c
  says = said.calls me.0 c.call.seq c is

  limits : IsWithinLimits group.m (length group.members)
  limits = said.limits c.call.group.0 c.call.view.0 group (asked_is setting views w stamps books said me.0 c.call.seq c is)

  -- what a reply reads
  abbrev Reads : Counted → Type 0
  Reads x = ReadsAt setting views sound w stamps me c books said is counted each once many (Below bound) x

  -- a version was held at a seat
  abbrev held_in : ℕ → Stamp → Bool
  held_in seat t = w.held (brick_at group seat) o.ask.group.0 o.ask.stripe.0 t

  each_tells : EachCounted (λ x. Reads x × TellsAtMost v (told_stamp x.reply)) counted
  each_tells = each_both Reads (λ x. TellsAtMost v (told_stamp x.reply)) counted all (found_most counted v greatest)

  -- a reply that tells the greatest version
  one : (x : Counted) × Reads x × (told_stamp x.reply ≡ Some v)
  one = found_one Reads counted v all greatest

  v_told : (version : Version) × (one.1.found ≡ Some version) × (version.stamp ≡ v)
  v_told = told_version_is one.0 one.1.found v one.1.found_is one.2

  v_below : stamp_below v bound ≡ true
  v_below = subst (λ (t : Stamp). stamp_below t bound ≡ true) v_told.2 (one.1.looked v_told.0 v_told.1)

  -- the version is below the operation's stamp, and was made, or is the first
  pub version_lower : stamp_below v c.stamp ≡ true
  version_lower = bound_most setting views sound w stamps me c books said is counted each once many bound looks all v v_below

  -- and is of the call's view
  pub version_view : view_of v ≡ c.call.view.0
  version_view = ap view_of (sym v_told.2) ∙ one.1.of v_told.0 v_told.1

  pub version_made : IsMadeOrFirst w o.ask.group.0 o.ask.stripe.0 v
  version_made = subst (λ (t : Stamp). IsMadeOrFirst w o.ask.group.0 o.ask.stripe.0 t) v_told.2 (one.1.made v_told.0 v_told.1)

  -- what is within what a reply tells is at most v
  within_most : (x : Counted) (found : Option Version) (d : Stamp) → told_in x.reply ≡ found → IsWithin found d → TellsAtMost v (told_stamp x.reply)
      → stamp_below v d ≡ false
  within_most x None d told within most = absurd within
  within_most x (Some version) d told within most =
      stamp_not_below_trans d version.stamp v within
      (subst (λ (z : Option Stamp). TellsAtMost v z) (ap (option_map (λ (z : Version). z.stamp)) told) most)

  -- no member that replied holds a version above v and below the bound
  not_held : (x : Counted) (d : Stamp) → Reads x → TellsAtMost v (told_stamp x.reply) → view_of d ≡ c.call.view.0 → stamp_below d bound ≡ true
      → stamp_below v d ≡ true → held_in x.seat d ≡ false
  not_held x d reads most of less above = ⊎_elim
      (λ (held : held_in x.seat d ≡ true).
      absurd (false≢true (sym (within_most x reads.found d reads.found_is (reads.newest d of held less) most) ∙ above)))
      (λ (isnt : held_in x.seat d ≡ false). isnt)
      (cases_Bool (held_in x.seat d))

  -- nothing that a quorum holds lies between v and the bound
  under_bound : (d : Stamp) → view_of d ≡ c.call.view.0 → stamp_below v d ≡ true → stamp_below d bound ≡ true
      → IsBlocked w o.ask.group.0 o.ask.stripe.0 group d
  under_bound d of above less =
      unheld_blocked setting views sound w stamps me c books said is counted each once many bound looks all d less
      (each_then (λ x. Reads x × TellsAtMost v (told_stamp x.reply)) (λ x. Reads x × (held_in x.seat d ≡ false)) counted
      (λ x h. (h.0, not_held x d h.0 h.1 of less above)) each_tells)

  -- nothing that a quorum holds, or ever will, lies between the version and the operation's stamp
  pub between_blocked : AreBlocked setting views w o.ask.group.0 o.ask.stripe.0 (λ d. (stamp_below v d ≡ true) × (stamp_below d c.stamp ≡ true))
  between_blocked d other other_is within =
      ⊎_elim
      (λ (lower : stamp_below d bound ≡ true).
      let of : view_of d ≡ c.call.view.0
      = in_view setting views sound w stamps me c books said is counted each once many bound looks all v d version_view within.0 lower in
      subst (λ (z : Group). IsBlocked w o.ask.group.0 o.ask.stripe.0 z d)
      (asked_view_in setting views sound w stamps me c books said is counted each once many bound looks all d other of other_is)
      (under_bound d of within.0 lower))
      (λ (upper : stamp_below d bound ≡ false).
      from_bound setting views sound w stamps me c books said is counted each once many bound looks all d other other_is upper within.1)
      (cases_Bool (stamp_below d bound))

  -- a member whose reply does not find v does not hold it
  not_found : (x : Counted) → Reads x → TellsAtMost v (told_stamp x.reply) → not (finds v x) ≡ true → held_in x.seat v ≡ false
  not_found x reads most isnt = ⊎_elim
      (λ (held : held_in x.seat v ≡ true). absurd (found_at reads.found reads.found_is (reads.newest v version_view held v_below)))
      (λ (never : held_in x.seat v ≡ false). never)
      (cases_Bool (held_in x.seat v))
    where
      found_at : (found : Option Version) → told_in x.reply ≡ found → IsWithin found v → ⊥
      found_at None told within = within
      found_at (Some version) told within =
          let stamp : told_stamp x.reply ≡ Some version.stamp = ap (option_map (λ (z : Version). z.stamp)) told in
          let same : version.stamp ≡ v
          = stamp_neither_below version.stamp v within (subst (λ (z : Option Stamp). TellsAtMost v z) stamp most) in
          let finds_it : finds v x ≡ true = told_finds v x.seat x.brick x.reply (stamp ∙ ap (λ (t : Stamp). Some t) same) in
          false≢true (sym (not-true (finds v x) isnt) ∙ finds_it)

  -- a version of which too few blocks were found no quorum holds, or ever will
  too_few_held : length (pieces_at v counted) < group.m → IsBlocked w o.ask.group.0 o.ask.stripe.0 group v
  too_few_held few =
      let test : Counted → Bool = λ x. not (finds v x) in
      let others : List Counted = filter test counted in
      let seats : length others ≤ count (length group.members) (passes_by w o.ask.group.0 o.ask.stripe.0 group v)
      = at_seats (length group.members) others (passes_by w o.ask.group.0 o.ask.stripe.0 group v)
      (each_then (λ x. (Reads x × TellsAtMost v (told_stamp x.reply)) × (test x ≡ true))
      (λ x. (x.seat < length group.members) × (passes_by w o.ask.group.0 o.ask.stripe.0 group v x.seat ≡ true)) others
      (λ x h. passes_at setting views sound w stamps me c books said is counted each once many bound looks all x v h.0.0
      (below_need setting views sound w stamps me c books said is counted each once many bound looks all v v_below) (not_found x h.0.0 h.0.1 h.1))
      (each_filter (λ x. Reads x × TellsAtMost v (told_stamp x.reply)) test counted each_tells))
      (once_filter test counted once) in
      let split : length (filter (finds v) counted) + length others ≡ length counted = length-filter_both (finds v) test (λ x. refl) counted in
      let pieces : length (pieces_at v counted) ≡ length (filter (finds v) counted) = pieces_length (filter (finds v) counted) in
      blocked_by w o.ask.group.0 o.ask.stripe.0 group v limits (omega (arith, seats, split, pieces, few, many))

  pub too_few_blocked : length (pieces_at v counted) < c.group.m → (other : Group)
      → group_in setting.layout views o.ask.group.0 (view_of v) ≡ Some other → IsBlocked w o.ask.group.0 o.ask.stripe.0 other v
  too_few_blocked few other other_is =
      subst (λ (z : Group). IsBlocked w o.ask.group.0 o.ask.stripe.0 z v)
      (asked_view_in setting views sound w stamps me c books said is counted each once many bound looks all v other version_view other_is)
      (too_few_held (subst (λ (m : ℕ). length (pieces_at v counted) < m) (sym (asked_m c)) few))

  -- such a version is not the first, which each member holds
  pub version_above : length (pieces_at v counted) < c.group.m → stamp_below first_stamp v ≡ true
  version_above few =
      above_first v (λ first.
      blocked_never_stands w o.ask.group.0 o.ask.stripe.0 group first_stamp
      (subst (λ (t : Stamp). IsBlocked w o.ask.group.0 o.ask.stripe.0 group t) first
      (too_few_held (subst (λ (m : ℕ). length (pieces_at v counted) < m) (sym (asked_m c)) few)))
      (let full = count_full (length group.members) (λ seat. held_in seat first_stamp)
      (λ k below. said.first_held o.ask.group.0 o.ask.stripe.0 (brick_at group k)) in
      omega (arith, full)))

-- A quorum of replies to a phase that looks for a version which stands finds enough blocks of it.
module _ (setting : Setting) (views : Views) (sound : IsSound setting) (w : World) (stamps : Stamping) (me : BrickId) (c : Coordinator)
    (books : Books setting w) (said : Said setting views w stamps) (is : IsCall w me.0 c.call.seq c)
    (counted : List Counted) (each : EachCounted (CountedSays setting views w me.0 c) counted) (once : AreOnce counted)
    (many : quorum_of (asked_group c) ≤ length counted) (base : Stamp)
    (all : EachCounted (ReadsAt setting views sound w stamps me c books said is counted each once many (At base)) counted)
    (of : view_of base ≡ c.call.view.0)
    (stands : AtQuorum (asked_group c) (λ seat. w.held (brick_at (asked_group c) seat) (books.calls me.0 c.call.seq c is).operation.ask.group.0
    (books.calls me.0 c.call.seq c is).operation.ask.stripe.0 base)) where
  abbrev base_ask : Ask
  base_ask = (books.calls me.0 c.call.seq c is).operation.ask

  abbrev held_base : ℕ → Bool
  held_base seat = w.held (brick_at (asked_group c) seat) base_ask.group.0 base_ask.stripe.0 base

  -- a reply that does not find the base is of a member that has not held it
  unheld : (x : Counted) → ReadsAt setting views sound w stamps me c books said is counted each once many (At base) x → not (finds base x) ≡ true
      → held_base x.seat ≡ false
  unheld x reads isnt = ⊎_elim
      (λ (held : held_base x.seat ≡ true). absurd (by reads.found reads.found_is reads.looked (reads.newest base of held (stamp_same_refl base))))
      (λ (never : held_base x.seat ≡ false). never)
      (cases_Bool (held_base x.seat))
    where
      by : (found : Option Version) → told_in x.reply ≡ found
          → ((version : Version) → found ≡ Some version → is_looked (At base) version.stamp ≡ true) → IsWithin found base → ⊥
      by None told looked within = within
      by (Some version) told looked within =
          let same : version.stamp ≡ base = stamp_same_true version.stamp base (looked version refl) in
          let finds_it : finds base x ≡ true
          = told_finds base x.seat x.brick x.reply (ap (option_map (λ (z : Version). z.stamp)) told ∙ ap (λ (t : Stamp). Some t) same) in
          false≢true (sym (not-true (finds base x) isnt) ∙ finds_it)

  base_found : (asked_group c).m ≤ length (pieces_at base counted)
  base_found =
      let limits : IsWithinLimits (asked_group c).m (length (asked_group c).members)
      = said.limits c.call.group.0 c.call.view.0 (asked_group c) (asked_is setting views w stamps books said me.0 c.call.seq c is) in
      let test : Counted → Bool = λ x. not (finds base x) in
      let others : List Counted = filter test counted in
      let seats : length others ≤ count (length (asked_group c).members) (λ seat. not (held_base seat))
      = at_seats (length (asked_group c).members) others (λ seat. not (held_base seat))
      (each_then (λ x. ReadsAt setting views sound w stamps me c books said is counted each once many (At base) x × (test x ≡ true))
      (λ x. (x.seat < length (asked_group c).members) × (not (held_base x.seat) ≡ true)) others
      (λ x h. (h.0.within, not_from_false (held_base x.seat) (unheld x h.0 h.1)))
      (each_filter (ReadsAt setting views sound w stamps me c books said is counted each once many (At base)) test counted all))
      (once_filter test counted once) in
      let sum = count_both (length (asked_group c).members) (λ seat. not (held_base seat)) held_base in
      let none = count_empty (length (asked_group c).members) (both (λ seat. not (held_base seat)) held_base) (λ k below. never_both (held_base k)) in
      let split : length (filter (finds base) counted) + length others ≡ length counted = length-filter_both (finds base) test (λ x. refl) counted in
      let pieces : length (pieces_at base counted) ≡ length (filter (finds base) counted) = pieces_length (filter (finds base) counted) in
      let twice = twice_quorum (asked_group c).m (length (asked_group c).members) limits.enough_seats in
      omega (arith, seats, sum, none, split, pieces, twice, stands, many)
    where
      never_both : (h : Bool) → (not h && h) ≡ false
      never_both true = refl
      never_both false = refl

-- A write of a block that reads its base back: a quorum of its replies that refuse nothing finds enough blocks of it.
module _ (setting : Setting) (views : Views) (sound : IsSound setting) (w : World) (stamps : Stamping) (me : BrickId) (c : Coordinator)
    (books : Books setting w) (said : Said setting views w stamps) (is : IsCall w me.0 c.call.seq c)
    (counted : List Counted) (each : EachCounted (CountedSays setting views w me.0 c) counted) (once : AreOnce counted)
    (many : quorum_of (asked_group c) ≤ length counted) (base : Stamp) (reads : c.phase ≡ Bases base)
    (none : greatest_refuser counted ≡ None) (roomy : NoneStops counted) where
  abbrev its_books : CallBooks setting w me.0 c.call.seq c
  its_books = books.calls me.0 c.call.seq c is

  based : MadeOn setting views w c base
  based = (said.calls me.0 c.call.seq c is).based base (ap base_in reads)

  -- which is of the call's view
  based_of : view_of base ≡ c.call.view.0
  based_of = based.of ∙ sym (ahead_call setting views w stamps books said me.0 c.call.seq c is (ap looks_back reads))

  all_reads : EachCounted (ReadsAt setting views sound w stamps me c books said is counted each once many (At base)) counted
  all_reads =
      all_read setting views sound w stamps me c books said is counted each once many (At base) (ap (λ (p : Phase). look_of p c.stamp) reads) none roomy

  pub base_enough : c.group.m ≤ length (pieces_at base counted)
  base_enough =
      subst (λ (m : ℕ). m ≤ length (pieces_at base counted)) (asked_m c)
      (base_found setting views sound w stamps me c books said is counted each once many base all_reads based_of
      (subst (λ (a : Ask). AtQuorum (asked_group c) (λ seat. w.held (brick_at (asked_group c) seat) a.group.0 a.stripe.0 base)) its_books.ask
      (based.stands (asked_group c) (asked_in setting views w stamps books said me.0 c.call.seq c is c.ask.group.0 base refl based_of))))

  -- and so reads its content back
  pub base_decodes : setting.code.decode c.group.m (pieces_at base counted)
      ≡ w.contents its_books.operation.ask.group.0 its_books.operation.ask.stripe.0 base
  base_decodes =
      pieces_decode setting views sound w stamps me c books said is counted each once many (At base) all_reads base
      (subst (λ (a : Ask). IsMadeOrFirst w a.group.0 a.stripe.0 base) its_books.ask based.base_made) (ap want_of reads) base_enough
