-- Each call has stamps of its own.
use Rattle.std.specs.Prelude.{if◌then◌else◌, ◌-◌}
use Rattle.fab_base.specs.declared.identities.ViewNo.{ViewNo}
use Rattle.std.specs.Option.{option_map}
use Rattle.fab_base.specs.Layouts.{Group, group_of}
use Rattle.std.proofs.Common.{◌≡◌, ℕ, inl, inr, true, false, Some, refl, sym, ap, ◌∙◌, subst, arith, Bool, List, Option, None, ◌≤◌}
use Rattle.std.proofs.lemmas.Bool.{false≢true, cond_both}
use Rattle.std.proofs.lemmas.Option.{same_Some}
use Rattle.fab_base.specs.declared.identities.BrickId.{BrickId}
use Rattle.fab_base.specs.declared.stamps.Stamp.{Stamp}
use Rattle.fab_base.specs.declared.asks.Op.{Op}
use Rattle.fab_base.specs.declared.asks.Op.TheVariants.{ReadBlock, WriteBlock, ReadStripe, WriteStripe}
use Rattle.fab_base.specs.Stamps.{stamp_below, first_stamp}
use Rattle.fab_base.proofs.StampOrder.{stamp_below_irrefl}
use Rattle.messages.specs.declared.calls.Call.{Call}
use Rattle.messages.specs.declared.packets.Message.TheVariants as Message
use Rattle.messages.specs.declared.requests.Look.{Look}
use Rattle.messages.specs.declared.requests.Look.TheVariants.{Below}
use Rattle.messages.specs.declared.requests.Want.{Want}
use Rattle.messages.specs.declared.requests.Want.TheVariants.{Seat, All}
use Rattle.messages.specs.declared.requests.Request.{Request}
use Rattle.protocol.specs.Settings.{Setting}
use Rattle.protocol.specs.Views.{Views, view_of, group_in, kept_by}
use Rattle.protocol.specs.declared.phases.Phase.{Phase}
use Rattle.protocol.specs.declared.phases.Phase.TheVariants.{LooksAt, Orders, OrdersAt, Recovers, Descends, Modifies, Stores, LooksBack}
use Rattle.protocol.specs.Coordinators.{Coordinator, asked_group, looks_back}
use Rattle.protocol.specs.Worlds.{World, Operation, number_of}
use Rattle.protocol.specs.Happenings.{writes}
use Rattle.protocol_laws.specs.Laws.{WasSent, RequestSent, IsCallOf, stamp_asked, order_of}
use Rattle.protocol_laws.proofs.Books.{Books, OperationBooks, IsOperation, IsCall, CallBooks}
use Rattle.protocol_laws.proofs.Said.{Stamping, Said, IsMadeOrFirst, IsBegun, IsStamped, IsCalled, FitsPhase, DescendsFrom, RequestSays, OrderSays, OrderReadSays, look_of, want_of, CallSays}
use Rattle.protocol_laws.proofs.Outcomes.{IsRound}
use Rattle.protocol_laws.proofs.Stampings.{not_first, begun_once}

-- the phase in which an operation orders
abbrev ordering : Op → Phase
ordering (ReadBlock j) = Recovers
ordering (WriteBlock j bytes) = OrdersAt j
ordering ReadStripe = Recovers
ordering (WriteStripe bytes) = Orders

is_round : (op : Op) → IsRound (ordering op)
is_round (ReadBlock j) = tt
is_round (WriteBlock j bytes) = tt
is_round ReadStripe = tt
is_round (WriteStripe bytes) = tt

-- it is none in which a version is stored
ordering_only : (op : Op) (p : Phase) → p ≡ ordering op → IsRound p
ordering_only op p is = subst (λ (q : Phase). IsRound q) (sym is) (is_round op)

-- a phase that looks back does so below some bound
pub back_is : (p : Phase) → looks_back p ≡ true → (bound : Option Stamp) × (p ≡ LooksBack bound)
back_is (LooksBack bound) is = (bound, refl)
back_is p is = absurd (false≢true is)

-- a group that is kept by some members, as others keep it
regrouped : (one other : List BrickId) (z : Option Group) (group : Group) → option_map (kept_by one) z ≡ Some group
    → option_map (kept_by other) z ≡ Some (kept_by other group)
regrouped one other None group is = absurd (let never : None ≡ Some group = is in cc)
regrouped one other (Some base) group is = ap (λ (z : Group). Some (kept_by other z)) (same_Some (kept_by one base) group is)

-- what a group asks of its blocks does not depend on who keeps it
pub asked_m : (c : Coordinator) → (asked_group c).m ≡ c.group.m
asked_m c = cond_both (looks_back c.phase) (kept_by c.prior c.group) c.group (λ (z : Group). z.m ≡ c.group.m) (λ back. refl) (λ ahead. refl)

-- an operation's own members are asked where it does not look back
pub ahead_group : (c : Coordinator) → looks_back c.phase ≡ false → asked_group c ≡ c.group
ahead_group c ahead = ap (λ (b : Bool). if b then kept_by c.prior c.group else c.group) ahead

module _ (setting : Setting) (views : Views) (w : World) (stamps : Stamping) (books : Books setting w) (said : Said setting views w stamps) where
  -- two phases with one stamp are of the same call
  stamp_unique : (i j b c k l p q : ℕ) (t : Stamp) → IsStamped stamps i b k p t → IsStamped stamps j c l q t → (i ≡ j) × (b ≡ c) × (k ≡ l)
  stamp_unique i j b c k l p q t here there =
      let brick : i ≡ j = sym (said.stamps_say.are i b k p t here).brick ∙ (said.stamps_say.are j c l q t there).brick in
      let boot : b ≡ c = sym (said.stamps_say.are i b k p t here).boot ∙ (said.stamps_say.are j c l q t there).boot in (
        brick,
        boot,
        said.stamps_say.apart j c k l p q t
            (subst (λ (z : ℕ). IsStamped stamps j z k p t) boot (subst (λ (z : ℕ). IsStamped stamps z b k p t) brick here)) there,
      )

  -- two operations with one stamp are the same
  pub operation_unique : (a b : ℕ) (d e : Operation) (p q : ℕ) (t : Stamp) → IsOperation w a d → IsOperation w b e
      → IsStamped stamps d.brick.0 d.boot d.seq p t → IsStamped stamps e.brick.0 e.boot e.seq q t → a ≡ b
  operation_unique a b d e p q t d_is e_is d_stamp e_stamp =
      let d_books : OperationBooks setting w a d = books.operations a d d_is in
      let e_books : OperationBooks setting w b e = books.operations b e e_is in
      let calls = stamp_unique d.brick.0 e.brick.0 d.boot e.boot d.seq e.seq p q t d_stamp e_stamp in
      sym d_books.number ∙ ap (λ (i : ℕ). w.numbers i d.boot d.seq) calls.0 ∙ ap (λ (z : ℕ). w.numbers e.brick.0 z d.seq) calls.1
      ∙ ap (λ (k : ℕ). w.numbers e.brick.0 e.boot k) calls.2 ∙ e_books.number

  -- a version that was made has a stamp of its maker's
  pub maker_stamp : (n : ℕ) (o : Operation) (v : Stamp) → IsOperation w n o → o.made ≡ true → o.version ≡ Some v
      → (p : ℕ) × IsStamped stamps o.brick.0 o.boot o.seq p v
  maker_stamp n o v is made version =
      let had = (said.operations n o is).made made in
      (had.1, subst (λ (t : Stamp). IsStamped stamps o.brick.0 o.boot o.seq had.1 t) (same_Some had.0 v (sym had.2 ∙ version)) had.3)

  -- a version that was made is not the first
  pub made_later : (n : ℕ) (o : Operation) (v : Stamp) → IsOperation w n o → o.made ≡ true → o.version ≡ Some v → v ≡ first_stamp → ⊥
  made_later n o v is made version first =
      let stamp = maker_stamp n o v is made version in
      not_first (w.nodes o.brick.0) o.brick.0 o.boot v (said.stamps_say.are o.brick.0 o.boot o.seq stamp.0 v stamp.1) first

  -- no version has a stamp of an operation that made none
  pub not_made_yet : (n : ℕ) (o : Operation) (p : ℕ) (t : Stamp) → IsOperation w n o → o.made ≡ false → IsStamped stamps o.brick.0 o.boot o.seq p t
      → (g s : ℕ) → IsMadeOrFirst w g s t → ⊥
  not_made_yet n o p t is unmade stamp g s (inl first) =
      not_first (w.nodes o.brick.0) o.brick.0 o.boot t (said.stamps_say.are o.brick.0 o.boot o.seq p t stamp) first
  not_made_yet n o p t is unmade stamp g s (inr made) =
      let maker = maker_stamp made.0 made.1 t made.2 made.5 made.6 in
      let number : n ≡ made.0 = operation_unique n made.0 o made.1 p maker.0 t is made.2 stamp maker.1 in
      let same : made.1 ≡ o = same_Some made.1 o (sym made.2 ∙ ap w.operations (sym number) ∙ is) in
      let bad : true ≡ false = sym made.5 ∙ ap (λ (z : Operation). z.made) same ∙ unmade in
      cc

  -- an open operation's stamp is of a view
  pub own_view : (i k : ℕ) (c : Coordinator) → IsCall w i k c → 1 ≤ c.stamp.view.0
  own_view i k c is =
      let its = books.calls i k c is in
      let of = its.stamp_view in
      let some = (said.operations (number_of w i k) its.operation its.operation_is).view.0 in
      omega (arith, of, some)

  pub own_in : (i k : ℕ) (c : Coordinator) → IsCall w i k c → view_of c.stamp ≡ c.stamp.view.0
  own_in i k c is = let some = own_view i k c is in omega (arith, some)

  -- a phase that does not look back asks the members of that view, under a call of it
  pub ahead_call : (i k : ℕ) (c : Coordinator) → IsCall w i k c → looks_back c.phase ≡ false → c.call.view.0 ≡ c.stamp.view.0
  ahead_call i k c is ahead =
      ap (λ (v : ViewNo). v.0) ((books.calls i k c is).call_view ∙ ap (λ (b : Bool). if b then record { 0 = c.stamp.view.0 - 1 } else c.stamp.view) ahead)

  -- one that looks back asks those of the view before
  pub back_call : (i k : ℕ) (c : Coordinator) → IsCall w i k c → looks_back c.phase ≡ true → c.call.view.0 ≡ c.stamp.view.0 - 1
  back_call i k c is back =
      ap (λ (v : ViewNo). v.0) ((books.calls i k c is).call_view ∙ ap (λ (b : Bool). if b then record { 0 = c.stamp.view.0 - 1 } else c.stamp.view) back)

  -- the members that a phase asks keep the group in the call's view
  pub asked_is : (i k : ℕ) (c : Coordinator) → IsCall w i k c → group_in setting.layout views c.call.group.0 c.call.view.0 ≡ Some (asked_group c)
  asked_is i k c is = by (looks_back c.phase) refl
    where
      says : CallSays setting views w stamps i k c
      says = said.calls i k c is

      by : (b : Bool) → looks_back c.phase ≡ b → group_in setting.layout views c.call.group.0 c.call.view.0 ≡ Some (asked_group c)
      by false ahead =
          ap (λ (e : ℕ). group_in setting.layout views c.call.group.0 e) (ahead_call i k c is ahead) ∙ says.group
          ∙ sym (ap (λ (b : Bool). Some (if b then kept_by c.prior c.group else c.group)) ahead)
      by true back =
          let bound = back_is c.phase back in
          ap (λ (e : ℕ). group_in setting.layout views c.call.group.0 e) (back_call i k c is back)
          ∙ regrouped (views c.call.group.0 c.stamp.view.0) (views c.call.group.0 (c.stamp.view.0 - 1)) (group_of setting.layout c.call.group.0) c.group says.group
          ∙ sym (ap (λ (l : List BrickId). Some (kept_by l c.group)) (says.prior (says.back bound.0 bound.1).view))
          ∙ sym (ap (λ (b : Bool). Some (if b then kept_by c.prior c.group else c.group)) back)

  -- in a version's view, where it is that of the call
  pub asked_in : (i k : ℕ) (c : Coordinator) → IsCall w i k c → (g : ℕ) (v : Stamp) → g ≡ c.ask.group.0 → view_of v ≡ c.call.view.0
      → group_in setting.layout views g (view_of v) ≡ Some (asked_group c)
  asked_in i k c is g v at of =
      ap (λ (h : ℕ). group_in setting.layout views h (view_of v)) (at ∙ ap (λ h. h.0) (sym (books.calls i k c is).call_group))
      ∙ ap (λ (e : ℕ). group_in setting.layout views c.call.group.0 e) of ∙ asked_is i k c is

  -- its members keep its group in its view
  pub call_in : (i k : ℕ) (c : Coordinator) → IsCall w i k c → (g : ℕ) (v : Stamp) → g ≡ c.ask.group.0 → view_of v ≡ c.stamp.view.0
      → group_in setting.layout views g (view_of v) ≡ Some c.group
  call_in i k c is g v at of =
      ap (λ (h : ℕ). group_in setting.layout views h (view_of v)) (at ∙ ap (λ h. h.0) (sym (books.calls i k c is).call_group))
      ∙ ap (λ (e : ℕ). group_in setting.layout views c.call.group.0 e) of ∙ (said.calls i k c is).group

  pub call_by : (i k : ℕ) (c : Coordinator) → IsCall w i k c → (g : ℕ) (v : Stamp) → g ≡ c.ask.group.0 → view_of v ≡ c.stamp.view.0
      → (other : Group) → group_in setting.layout views g (view_of v) ≡ Some other → c.group ≡ other
  call_by i k c is g v at of other other_is = same_Some c.group other (sym (call_in i k c is g v at of) ∙ other_is)

  -- and it has as many data blocks as the layout says
  pub m_is : (i k : ℕ) (c : Coordinator) → IsCall w i k c → (g : ℕ) (other : Group) → g ≡ c.ask.group.0 → group_of setting.layout g ≡ Some other
      → other.m ≡ c.group.m
  m_is i k c is g other at other_is =
      ap (λ (z : Group). z.m) (same_Some (kept_by (views g c.stamp.view.0) other) c.group
      (sym (ap (option_map (kept_by (views g c.stamp.view.0))) other_is)
      ∙ ap (λ (h : ℕ). group_in setting.layout views h c.stamp.view.0) (at ∙ ap (λ h. h.0) (sym (books.calls i k c is).call_group))
      ∙ (said.calls i k c is).group))

  -- what a request that was sent says
  sent_says : (call : Call) (from to : BrickId) (request : Request)
      → WasSent w (record { from = from; to = to; message = Message.Request call request })
      → RequestSays setting views w stamps from.0 to.0 call request
  sent_says call from to request sent = said.packets sent.0 (record { from = from; to = to; message = Message.Request call request }) sent.1

  -- the operation of a call is one alone
  called_once : (from : ℕ) (call : Call) (o p : Operation) → IsCalled w from call o → IsCalled w from call p → o ≡ p
  called_once from call o p one other = same_Some o p (sym one.is ∙ other.is)

  -- a phase that looks below its own stamp, and wants this block alone, is the order of a write of it
  order_at : (p : Phase) (t : Stamp) (j : ℕ) → look_of p t ≡ Some (Below t) → want_of p ≡ Seat j → p ≡ OrdersAt j
  order_at (OrdersAt k) t j looks wants = let same : k ≡ j = cc in ap OrdersAt same
  order_at (LooksAt k) t j looks wants = cc
  order_at p t j looks wants = cc

  -- and one of a read is its recovery's first
  order_read : (op : Op) (p : Phase) (t : Stamp) → writes op ≡ false → looks_back p ≡ false → look_of p t ≡ Some (Below t) → FitsPhase p op
      → DescendsFrom p op t → p ≡ Recovers
  order_read op Recovers t reads ahead looks fits from = refl
  order_read op (OrdersAt k) t reads ahead looks fits from = absurd (false≢true (sym reads ∙ ap writes fits.1))
  order_read op (LooksBack bound) t reads ahead looks fits from = absurd (false≢true (sym ahead))
  order_read op (Descends bound) t reads ahead looks fits from =
      let same : bound ≡ t = cc in
      absurd (false≢true (sym (stamp_below_irrefl t) ∙ subst (λ (z : Stamp). stamp_below z t ≡ true) same (from.lower bound refl reads)))
  order_read op p t reads ahead looks fits from = cc

  -- the phase in which a read orders
  read_begun : (call : Call) (from to : BrickId) (o : Operation) (op : Op) (t : Stamp) → IsCalled w from.0 call o → o.ask.op ≡ op → writes op ≡ false
      → RequestSent w call from to (Request.OrderRead t (Below t) All) → IsBegun stamps from.0 call.boot call.seq call.phase Recovers t
  read_begun call from to o op t called is reads sent =
      let says : OrderReadSays w stamps from.0 call t (Below t) All = sent_says call from to (Request.OrderRead t (Below t) All) sent in
      let same : says.operation.ask.op ≡ op = ap (λ (z : Operation). z.ask.op) (called_once from.0 call says.operation o says.called called) ∙ is in
      subst (λ (p : Phase). IsBegun stamps from.0 call.boot call.seq call.phase p t)
      (order_read says.operation.ask.op says.phase t (ap writes same ∙ reads) says.ahead says.look_is says.fits says.from) says.begun

  -- the phase in which an operation orders
  order_begun : (call : Call) (from to : BrickId) (o : Operation) (op : Op) (t : Stamp) → IsCalled w from.0 call o → o.ask.op ≡ op
      → RequestSent w call from to (order_of op t) → IsBegun stamps from.0 call.boot call.seq call.phase (ordering op) t
  order_begun call from to o (WriteStripe bytes) t called is sent =
      let says : OrderSays w stamps from.0 call t = sent_says call from to (Request.Order t) sent in says.begun
  order_begun call from to o (WriteBlock j bytes) t called is sent =
      let says : OrderReadSays w stamps from.0 call t (Below t) (Seat j) = sent_says call from to (Request.OrderRead t (Below t) (Seat j)) sent in
      subst (λ (p : Phase). IsBegun stamps from.0 call.boot call.seq call.phase p t) (order_at says.phase t j says.look_is says.want_is) says.begun
  order_begun call from to o (ReadBlock j) t called is sent = read_begun call from to o (ReadBlock j) t called is refl sent
  order_begun call from to o ReadStripe t called is sent = read_begun call from to o ReadStripe t called is refl sent

  -- what is asked in the phase in which an operation orders is its order
  order_is : (call : Call) (from to : BrickId) (op : Op) (request : Request) (t u : Stamp) → RequestSays setting views w stamps from.0 to.0 call request
      → stamp_asked request ≡ Some t → IsBegun stamps from.0 call.boot call.seq call.phase (ordering op) u → request ≡ order_of op t
  order_is call from to op (Request.Order z) t u says asked begun =
      let same = begun_once stamps from.0 call.boot call.seq call.phase Orders (ordering op) z u says.begun begun in
      let stamp : z ≡ t = cc in ap Request.Order stamp ∙ whole op same.0
    where
      whole : (op : Op) → Orders ≡ ordering op → Request.Order t ≡ order_of op t
      whole (WriteStripe bytes) is = refl
      whole (WriteBlock j bytes) is = cc
      whole (ReadBlock j) is = cc
      whole ReadStripe is = cc
  order_is call from to op (Request.OrderRead z look want) t u says asked begun =
      let same = begun_once stamps from.0 call.boot call.seq call.phase says.phase (ordering op) z u says.begun begun in
      let stamp : z ≡ t = cc in
      ap (λ (x : Stamp). Request.OrderRead x look want) stamp
      ∙ told op (subst (λ (x : Stamp). look_of says.phase x ≡ Some look) stamp says.look_is) same.0
    where
      told : (op : Op) → look_of says.phase t ≡ Some look → says.phase ≡ ordering op → Request.OrderRead t look want ≡ order_of op t
      told op looks is =
          by op (subst (λ (p : Phase). look_of p t ≡ Some look) is looks) (subst (λ (p : Phase). want_of p ≡ want) is says.want_is)
        where
          by : (op : Op) → look_of (ordering op) t ≡ Some look → want_of (ordering op) ≡ want → Request.OrderRead t look want ≡ order_of op t
          by (WriteStripe bytes) looks wants = cc
          by (WriteBlock j bytes) looks wants = let a : Below t ≡ look = cc in ap (λ (l : Look). Request.OrderRead t l want) (sym a)
              ∙ ap (λ (x : Want). Request.OrderRead t (Below t) x) (sym wants)
          by (ReadBlock j) looks wants = let a : Below t ≡ look = cc in ap (λ (l : Look). Request.OrderRead t l want) (sym a)
              ∙ ap (λ (x : Want). Request.OrderRead t (Below t) x) (sym wants)
          by ReadStripe looks wants = let a : Below t ≡ look = cc in ap (λ (l : Look). Request.OrderRead t l want) (sym a)
              ∙ ap (λ (x : Want). Request.OrderRead t (Below t) x) (sym wants)
  order_is call from to op (Request.Write z block) t u says asked begun =
      absurd (ordering_only op Stores (begun_once stamps from.0 call.boot call.seq call.phase Stores (ordering op) z u says.maker.begun begun).0)
  order_is call from to op (Request.Modify z base j sent) t u says asked begun =
      absurd (ordering_only op (Modifies base j)
      (begun_once stamps from.0 call.boot call.seq call.phase (Modifies base j) (ordering op) z u says.maker.begun begun).0)
  order_is call from to op request t u says asked begun = cc

  -- the operation that asks at a stamp
  asker : (call : Call) (from to : ℕ) (request : Request) (t : Stamp) → RequestSays setting views w stamps from to call request
      → stamp_asked request ≡ Some t → (o : Operation) × IsCalled w from call o
  asker call from to (Request.Order z) t says asked = (says.operation, says.called)
  asker call from to (Request.OrderRead z look want) t says asked = (says.operation, says.called)
  asker call from to (Request.Write z block) t says asked = (says.maker.operation, says.maker.called)
  asker call from to (Request.Modify z base j sent) t says asked = (says.maker.operation, says.maker.called)
  asker call from to request t says asked = cc

  -- where an operation orders under a call, all that it asks under it is that order
  pub orders_alone : (n : ℕ) (o : Operation) (call : Call) (to other : BrickId) (request : Request) (t u : Stamp) → IsOperation w n o → IsCallOf call o
      → RequestSent w call o.brick to request → stamp_asked request ≡ Some t → RequestSent w call o.brick other (order_of o.ask.op u)
      → request ≡ order_of o.ask.op t
  orders_alone n o call to other request t u is own sent asked ordered =
      let says : RequestSays setting views w stamps o.brick.0 to.0 call request = sent_says call o.brick to request sent in
      let by : (p : Operation) × IsCalled w o.brick.0 call p = asker call o.brick.0 to.0 request t says asked in
      let number : w.numbers o.brick.0 call.boot call.seq ≡ n
      = ap (λ (b : ℕ). w.numbers o.brick.0 b call.seq) own.0 ∙ ap (λ (k : ℕ). w.numbers o.brick.0 o.boot k) own.1
      ∙ (books.operations n o is).number in
      let same : by.0 ≡ o = same_Some by.0 o (sym by.1.is ∙ ap w.operations number ∙ is) in
      order_is call o.brick to o.ask.op request t u says asked
      (order_begun call o.brick other o o.ask.op u (subst (λ (p : Operation). IsCalled w o.brick.0 call p) same by.1) refl ordered)

  -- the present phase of an open call was begun
  call_begun : (from : BrickId) (c : Coordinator) → IsCall w from.0 c.call.seq c
      → IsBegun stamps from.0 c.call.boot c.call.seq c.call.phase c.phase c.stamp
  call_begun from c is =
      subst (λ (b : ℕ). IsBegun stamps from.0 b c.call.seq c.call.phase c.phase c.stamp) (sym (books.calls from.0 c.call.seq c is).call_boot)
      (said.calls from.0 c.call.seq c is).begun

  -- an operation is in a round of ordering where it has sent its order under the call of its present phase
  pub in_round : (from to : BrickId) (c : Coordinator) (t : Stamp) → IsCall w from.0 c.call.seq c
      → RequestSent w c.call from to (order_of c.ask.op t) → IsRound c.phase
  in_round from to c t is sent =
      let its : CallBooks setting w from.0 c.call.seq c = books.calls from.0 c.call.seq c is in
      let called : IsCalled w from.0 c.call its.operation = record {
        is = subst (λ (b : ℕ). IsOperation w (w.numbers from.0 b c.call.seq) its.operation) (sym its.call_boot) its.operation_is;
        brick = its.brick;
        boot = its.boot ∙ sym its.call_boot;
        seq = its.seq;
        group = ap (λ a. a.group.0) (sym its.ask) ∙ ap (λ g. g.0) (sym its.call_group);
        stripe = ap (λ a. a.stripe.0) (sym its.ask) ∙ ap (λ s. s.0) (sym its.call_stripe);
      } in
      let begun = order_begun c.call from to its.operation c.ask.op t called (ap (λ a. a.op) (sym its.ask)) sent in
      subst (λ (p : Phase). IsRound p)
      (begun_once stamps from.0 c.call.boot c.call.seq c.call.phase (ordering c.ask.op) c.phase t c.stamp begun (call_begun from c is)).0
      (is_round c.ask.op)
