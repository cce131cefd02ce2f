-- Each answer has the word of its operation.
use Rattle.std.proofs.Common.{◌≡◌, ℕ, ◌*◌, ◌≤◌, true, List, length, take, drop, Option, Some, None, inl, inr, refl, sym, ap, ◌∙◌, subst, arith}
use Rattle.std.specs.Prelude.{slice_get}
use Rattle.std.proofs.lemmas.Bool.{false≢true, ltb-true}
use Rattle.std.proofs.lemmas.Option.{same_Some}
use Rattle.std.proofs.lemmas.List.{length-replicate, take-append-drop}
use Rattle.fab_base.specs.declared.stamps.Stamp.{Stamp}
use Rattle.fab_base.specs.declared.asks.Op.{Op}
use Rattle.fab_base.specs.declared.asks.Op.TheVariants.{ReadBlock, WriteBlock, ReadStripe, WriteStripe}
use Rattle.fab_base.specs.declared.answers.Answer.{Answer}
use Rattle.fab_base.specs.declared.answers.Answer.TheVariants.{Data, Done, Aborted}
use Rattle.fab_base.specs.Layouts.{Group, group_of}
use Rattle.reg_model.specs.declared.marks.Mark.{Mark}
use Rattle.reg_model.specs.declared.marks.Mark.TheVariants.{End}
use Rattle.reg_model.specs.Marks.{Life, life_of, IsOpen}
use Rattle.reg_model.proofs.GrowingLives.{life_onward, life_of-append}
use Rattle.protocol.specs.Views.{Views}
use Rattle.protocol.specs.Settings.{Setting}
use Rattle.reg_model.specs.Registers.{block_of, read_of}
use Rattle.protocol.specs.Nodes.{has_block}
use Rattle.protocol.specs.Worlds.{World, Operation, zero_content}
use Rattle.protocol.specs.Happenings.{writes}
use Rattle.protocol_laws.specs.Marked.{WordFits, WordsFit}
use Rattle.protocol_laws.proofs.Books.{Books, OperationBooks, LifeBooks, IsOperation}
use Rattle.protocol.proofs.Blocks.{block_room, block_long}
use Rattle.protocol_laws.proofs.Said.{Stamping, Said, IsMadeOrFirst, EndShows}

module _ (setting : Setting) (views : Views) (w : World) (stamps : Stamping) (books : Books setting w) (said : Said setting views w stamps) where
  -- the content of a version that was made, or of the first, is that of m blocks
  content_long : (g s : ℕ) (t : Stamp) (group : Group) → group_of setting.layout g ≡ Some group → IsMadeOrFirst w g s t
      → length (w.contents g s t) ≡ group.m * setting.layout.block
  content_long g s t group is (inl first) =
      ap (λ (u : Stamp). length (w.contents g s u)) first
      ∙ ap (λ (l : List ℕ). length l) (said.first g s ∙ ap (λ (z : Option Group). zero_content setting.layout.block z) is)
      ∙ length-replicate (group.m * setting.layout.block) 0
  content_long g s t group is (inr made) =
      let p : Operation = made.1 in
      let content : w.contents p.ask.group.0 p.ask.stripe.0 t ≡ w.contents g s t
      = ap (λ (x : ℕ). w.contents x p.ask.stripe.0 t) made.3 ∙ ap (λ (x : ℕ). w.contents g x t) made.4 in
      ap (λ (l : List ℕ). length l) (sym content)
      ∙ ((said.operations made.0 p made.2).content t made.5 made.6 group (ap (group_of setting.layout) made.3 ∙ is)).0

  -- what a read gives of m blocks is its word
  read_word : (op : Op) (m : ℕ) (bytes content : List ℕ) → has_block m op ≡ true → read_of setting.layout.block op content ≡ Some bytes
      → length content ≡ m * setting.layout.block → WordFits m setting.layout.block op (Data bytes)
  read_word (ReadBlock j) m bytes content has is long =
      ap (λ (l : List ℕ). length l) (sym (same_Some (block_of setting.layout.block j content) bytes is))
      ∙ block_long setting.layout.block j content (let room = block_room j m setting.layout.block (ltb-true j m has) in omega (arith, room, long))
  read_word ReadStripe m bytes content has is long = ap (λ (l : List ℕ). length l) (sym (same_Some content bytes is)) ∙ long
  read_word (WriteBlock j given) m bytes content has is long = cc
  read_word (WriteStripe given) m bytes content has is long = cc

  write_word : (op : Op) (m : ℕ) → writes op ≡ true → WordFits m setting.layout.block op Done
  write_word (WriteBlock j given) m is = tt
  write_word (WriteStripe given) m is = tt
  write_word (ReadBlock j) m is = absurd (false≢true is)
  write_word ReadStripe m is = absurd (false≢true is)

  -- what the end of an operation shows is its word: n is the number of its marks
  end_fits : (n : ℕ) (answer : Answer) → EndShows setting w n answer
      → (a : ℕ) × (o : Operation) × IsOperation w a o × (o.mark ≡ n)
      × ((group : Group) → group_of setting.layout o.ask.group.0 ≡ Some group → WordFits group.m setting.layout.block o.ask.op answer)
  end_fits n (Data bytes) shown = (
    shown.number,
    shown.operation,
    shown.is,
    shown.mark,
    λ group is.
        let its : OperationBooks setting w shown.number shown.operation = books.operations shown.number shown.operation shown.is in
        let same : its.group ≡ group = same_Some its.group group (sym its.group_is ∙ is) in
        read_word shown.operation.ask.op group.m bytes (w.contents shown.operation.ask.group.0 shown.operation.ask.stripe.0 shown.version)
        (ap (λ (z : Group). has_block z.m shown.operation.ask.op) (sym same) ∙ its.block_fits) shown.bytes_are
        (content_long shown.operation.ask.group.0 shown.operation.ask.stripe.0 shown.version group is
        ((said.operations shown.number shown.operation shown.is).version shown.version shown.version_is).made),
  )
  end_fits n Done shown = (shown.0, shown.1, shown.2, shown.3, λ group is. write_word shown.1.ask.op group.m shown.4)
  end_fits n (Aborted cause) shown = (shown.0, shown.1, shown.2, shown.3, λ group is. tt)

  -- an End is of marks, so of a number above 0
  end_marked : (k p n : ℕ) (answer : Answer) → slice_get w.marks k ≡ Some (End p n answer) → 1 ≤ n
  end_marked k p n answer at = by (life_of (take k w.marks) n) refl (books.well_formed.ends_are_of_open k p n answer at)
    where
      by : (found : Option Life) → life_of (take k w.marks) n ≡ found → IsOpen found → 1 ≤ n
      by None is never = absurd never
      by (Some life) is still =
          let grown : life_of w.marks n ≡ life_onward (Some life) (drop k w.marks) n
          = ap (λ (l : List Mark). life_of l n) (sym (take-append-drop k w.marks)) ∙ life_of-append (take k w.marks) (drop k w.marks) n
          ∙ ap (λ (x : Option Life). life_onward x (drop k w.marks) n) is in
          (books.lives n _ grown).0

  -- the words of a world's marks fit
  pub words_fit : WordsFit setting.layout w.marks
  words_fit k p n answer at =
      let fits = end_fits n answer (said.ends k p n answer at) in
      let own : OperationBooks setting w fits.0 fits.1 = books.operations fits.0 fits.1 fits.2 in
      let lived : LifeBooks w fits.1 = own.lived (let low : 1 ≤ n = end_marked k p n answer at in omega (arith, fits.3, low)) in (
        lived.life,
        own.group,
        ap (λ (m : ℕ). life_of w.marks m) (sym fits.3) ∙ lived.life_is,
        ap (λ a. group_of setting.layout a.group.0) lived.ask ∙ own.group_is,
        subst (λ (op : Op). WordFits own.group.m setting.layout.block op answer) (ap (λ a. a.op) (sym lived.ask)) (fits.4 own.group own.group_is),
      )
