-- What an image opens as.
use Rattle.std.proofs.Common.{◌≡◌, inl, inr, ⊎_elim, ℕ, ◌+◌, ◌-◌, ◌<◌, ◌≤◌, min, Bool, true, false, not, nat_eq, List, length, get_or, take, drop, refl, sym, ◌∙◌, ap, subst, arith, length-take, length-drop}
use Rattle.std.proofs.lemmas.Bool.Decides.{nat_tests}
use Rattle.std.proofs.lemmas.Grind.{same_number_lists}
use Rattle.std.proofs.lemmas.List.{places}
use Rattle.fab_disk.specs.Disk.{IsUntouched}
use Rattle.frame_store.specs.declared.frames.Frame.{Frame}
use Rattle.frame_store.specs.declared.shapes.Shape.{Shape}
use Rattle.frame_store.specs.declared.shapes.Form.{Form}
use Rattle.frame_store.specs.declared.shapes.Half.{Half}
use Rattle.frame_store.specs.declared.shapes.Half.TheVariants.{A, B}
use Rattle.frame_store.specs.Layouts.{formed, header_at, half_at, half_size}
use Rattle.frame_store.specs.Listed.{size_of, frames_of}
use Rattle.frame_store.specs.Laid.{other, Laid}
use Rattle.frame_store.specs.Reading.{IsListOf}
use Rattle.frame_store.specs.Images.{part, InForce, EndsClosed, OpensAs, IsNoStore, half_bytes, generation_at}
use Rattle.frame_store.proofs.Parts.{part_get, length-part, part_of_part}
use Rattle.frame_store.proofs.Headers.{header_within, in_force_kept, generation_kept, open_back, form_once}

-- calls that changed nothing, one after the other
pub untouched_both : {D : Type 0} (seen : D → List ℕ) (may_leave : D → List ℕ → Type 0) (moment : D → ℕ) (left_since : D → ℕ → List ℕ → Type 0)
    → ((disk : D) (t : ℕ) (image : List ℕ) → t ≤ moment disk → may_leave disk image → left_since disk t image) → (a b c : D)
    → IsUntouched seen may_leave moment left_since a b → IsUntouched seen may_leave moment left_since b c
    → IsUntouched seen may_leave moment left_since a c
untouched_both seen may_leave moment left_since counts a b c first second = record {
  content = second.content ∙ first.content;
  crash = λ image left. first.crash image (second.crash image left);
  clock = second.clock ∙ first.clock;
  time = record {
    later = omega (arith, first.time.later, second.time.later);
    nothing_else = λ t image le since.
        ⊎_elim (λ past. inl (⊎_elim (λ had. had) (λ now. counts a t image le (first.crash image now)) (first.time.nothing_else t image le past)))
        (λ now. inr now)
        (second.time.nothing_else t image (omega (arith, le, first.time.later)) since);
    keeps = λ t image le past. second.time.keeps t image (omega (arith, le, first.time.later)) (first.time.keeps t image le past);
  };
}

-- the front of a front
pub take_twice : (n m : ℕ) (l : List ℕ) → n ≤ m → take n (take m l) ≡ take n l
take_twice n m l le = same_number_lists (take n (take m l)) (take n l) (omega (arith, length-take n (take m l), length-take m l, length-take n l))
    (λ k lt. grind (arith, places))

-- The headers alone tell which half an image is read by.
module _ (shape : Shape) (image headers : List ℕ) (whole : 64 ≤ length image) (are : headers ≡ part 0 64 image) where
  size : length headers ≡ 64
  size = ap length are ∙ length-part 0 64 image (omega arith)

  same : (half : Half) → part (header_at half) 26 image ≡ part (header_at half) 26 headers
  same half =
      sym (ap (part (header_at half) 26) are ∙ part_of_part 0 64 (header_at half) 26 (header_at half) image (omega (arith, header_within half))
      (omega arith) (omega arith))

  pub headers_in_force : (half : Half) → InForce shape half headers → InForce shape half image
  headers_in_force half is = in_force_kept shape half headers image (omega (arith, size)) whole (same half) (λ form other_open. same (other half)) is

  pub headers_none : IsNoStore shape headers → IsNoStore shape image
  headers_none none = record {
    first = λ form is. none.first form (open_back (formed form shape) A headers image (omega (arith, size)) whole (same A) is);
    second = λ form is. none.second form (open_back (formed form shape) B headers image (omega (arith, size)) whole (same B) is);
  }

  gate_same : (half : Half) → get_or headers (header_at half) 0 ≡ get_or image (header_at half) 0
  gate_same half =
      let here : 0 + header_at half ≡ header_at half = omega arith in
      ap (λ (l : List ℕ). get_or l (header_at half) 0) are ∙ part_get 0 64 image (header_at half) (omega (arith, header_within half))
      ∙ ap (λ (i : ℕ). get_or image i 0) here

  -- a store that was read is laid in the image
  pub read_laid : (half : Half) (number : ℕ) (frames : List Frame) (used : ℕ) (other_shut closed : Bool)
      → InForce shape half headers → generation_at half headers ≡ number → IsListOf (half_bytes shape half image) frames used closed
      → used ≡ size_of frames → other_shut ≡ not (nat_eq (get_or headers (header_at (other half)) 0) 165)
      → Laid shape half number other_shut frames closed image
  read_laid half number frames used other_shut closed in_force generation list used_is shut_is =
      let long : length (half_bytes shape half image) ≡ min (half_size shape) (length image - half_at shape half) =
      length-take (half_size shape) (drop (half_at shape half) image)
      ∙ ap (min (half_size shape)) (length-drop (half_at shape half) image) in
      record {
        in_force = headers_in_force half in_force;
        generation = generation_kept shape half headers image (omega (arith, size)) whole (same half) ∙ generation;
        listed = list.listed;
        short = list.short;
        stands = sym (take_twice (size_of frames) (half_size shape) (drop (half_at shape half) image) (omega (arith, list.within, used_is, long)))
            ∙ ap (λ (n : ℕ). take n (half_bytes shape half image)) (sym used_is) ∙ list.stands;
        shut = λ is is_open. shut_gate (get_or headers (header_at (other half)) 0) (sym shut_is ∙ is) (gate_same (other half) ∙ is_open);
        unshut = λ is. sym (gate_same (other half)) ∙ open_gate (get_or headers (header_at (other half)) 0) (sym shut_is ∙ is);
        ended = λ is.
            let there = list.ended is in
            record {
              within_half = omega (arith, there.within, used_is, long);
              within_file = omega (arith, there.within, used_is, long);
              shut = λ is_open. there.shut (gate_at (omega (arith, there.within, long)) ∙ is_open);
            };
        not_ended = λ ends. list.not_ended (record {
          within = omega (arith, ends.within_half, ends.within_file, used_is, long);
          shut = λ is_open. ends.shut (sym (gate_at (omega (arith, ends.within_half, used_is))) ∙ is_open);
        });
      }
    where
      shut_gate : (g : ℕ) → not (nat_eq g 165) ≡ true → g ≡ 165 → ⊥
      shut_gate g shut is = grind (arith, nat_tests)

      open_gate : (g : ℕ) → not (nat_eq g 165) ≡ false → g ≡ 165
      open_gate g is = grind (arith, nat_tests)

      gate_at : used < half_size shape → get_or (half_bytes shape half image) used 0 ≡ get_or image (half_at shape half + size_of frames) 0
      gate_at lt =
          let here : half_at shape half + used ≡ half_at shape half + size_of frames = omega (arith, used_is) in
          part_get (half_at shape half) (half_size shape) image used lt
          ∙ ap (λ (i : ℕ). get_or image i 0) here

-- An image opens in one way at most.
pub opens_once : (shape : Shape) (image : List ℕ) (f g : List Frame) (b c : Bool) → OpensAs shape f b image → OpensAs shape g c image → (f ≡ g)
    × (b ≡ c)
opens_once shape image f g b c first second = at first.half second.half first.in_force second.in_force first.listed second.listed first.ended second.ended first.not_ended second.not_ended
  where
    agree : (h : Half) → frames_of (half_bytes shape h image) ≡ f → frames_of (half_bytes shape h image) ≡ g
        → (b ≡ true → EndsClosed shape h f image) → (c ≡ true → EndsClosed shape h g image) → (EndsClosed shape h f image → b ≡ true)
        → (EndsClosed shape h g image → c ≡ true) → (f ≡ g) × (b ≡ c)
    agree h lf lg ef eg nf ng = (
      sym lf ∙ lg,
      bools b c (λ is. ng (subst (λ (l : List Frame). EndsClosed shape h l image) (sym lf ∙ lg) (ef is)))
          (λ is. nf (subst (λ (l : List Frame). EndsClosed shape h l image) (sym lg ∙ lf) (eg is))),
    )
      where
        bools : (x y : Bool) → (x ≡ true → y ≡ true) → (y ≡ true → x ≡ true) → x ≡ y
        bools true y to from = sym (to refl)
        bools false true to from = from refl
        bools false false to from = refl

    at : (h k : Half) → InForce shape h image → InForce shape k image → frames_of (half_bytes shape h image) ≡ f
        → frames_of (half_bytes shape k image) ≡ g
        → (b ≡ true → EndsClosed shape h f image) → (c ≡ true → EndsClosed shape k g image) → (EndsClosed shape h f image → b ≡ true)
        → (EndsClosed shape k g image → c ≡ true) → (f ≡ g) × (b ≡ c)
    at A A x y lf lg ef eg nf ng = agree A lf lg ef eg nf ng
    at B B x y lf lg ef eg nf ng = agree B lf lg ef eg nf ng
    at A B x y lf lg ef eg nf ng = absurd (x.1 shape.form y.0 (y.1 shape.form x.0))
    at B A x y lf lg ef eg nf ng = absurd (y.1 shape.form x.0 (x.1 shape.form y.0))

-- And in one form at most.
pub opens_in_one_form : (shape : Shape) (f g : Form) (image : List ℕ) (fs gs : List Frame) (b c : Bool) → OpensAs (formed f shape) fs b image
    → OpensAs (formed g shape) gs c image → f ≡ g
opens_in_one_form shape f g image fs gs b c first second = at first.half second.half first.in_force second.in_force
  where
    at : (h k : Half) → InForce (formed f shape) h image → InForce (formed g shape) k image → f ≡ g
    at A A x y = form_once shape f g A image x.0 y.0
    at B B x y = form_once shape f g B image x.0 y.0
    at A B x y = absurd (x.1 g y.0 (y.1 f x.0))
    at B A x y = absurd (y.1 f x.0 (x.1 g y.0))
