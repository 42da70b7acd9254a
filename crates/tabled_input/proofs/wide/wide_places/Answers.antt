-- One character more, and at the end all of them.
use Rattle.std.proofs.Common.{◌≡◌, ℕ, ◌+◌, ◌-◌, ◌<◌, ◌&&◌, ◌++◌, ◌∷◌, [], Global, chars, drop, get_or, length, take, sym, ap, ◌∙◌, arith}
use Rattle.std.specs.List.{filter, list_all, range_with_len}
use Rattle.std.specs.declared.vec.Vec.{Vec}
use Rattle.std.proofs.lemmas.Iterator.{YieldsList-from_chars}
use Rattle.std.proofs.lemmas.Iterator.Consumers.{YieldsList-end, YieldsList-from_enumerate, YieldsList-turn}
use Rattle.std.proofs.lemmas.List.{length_push}
use Rattle.std.proofs.lemmas.List.FromFn.{get_or-enumerate_from, length-enumerate_from}
use Rattle.tabled_input.specs.Spaced.{begins_wide, is_blank}
use Rattle.tabled_input.proofs.WideCells.{begins, last_one, last_two, place_added, place_passed}
use Rattle.tabled_input.proofs.wide.wide_places.Goals as goal
use Rattle.tabled_input.proofs.wide.wide_places.Goals.{then-after_gap-is_blank+in_ok-push, else-after_gap-is_blank}

zero_more : (n : ℕ) → 0 + n ≡ n
zero_more n = omega arith

pub loop-place-preserved : goal.loop-place-preserved
loop-place-preserved c =
    let cs = chars c.args.line.now in
    let at = length c.loop-place.yielded in
    let t = YieldsList-turn (YieldsList-from_enumerate (YieldsList-from_chars c.args.line.now c.utf8.line (cc)) (cc)) c.loop-place.yielded _ c.loop-place.yielded_by _ _ (c.in-Some.place, c.in-Some.character) c.in-Some.is c.next.ensures.steps in
    let inside : at < length cs = omega (arith, t.0, length-enumerate_from 0 cs) in
    let same : (c.in-Some.place, c.in-Some.character) ≡ (0 + at, get_or cs at c.in-Some.character) = t.1 ∙ get_or-enumerate_from 0 cs at (c.in-Some.place, c.in-Some.character) inside in
    let place : c.in-Some.place ≡ at = ap (λ (p : ℕ × ℕ). p.0) same ∙ zero_more at in
    let character : c.in-Some.character ≡ get_or cs at c.in-Some.character = ap (λ (p : ℕ × ℕ). p.1) same in
    let now = begins cs at c.in-Some.character c.loop-place.after_gap c.is_blank_char-is_blank.result inside character c.loop-place.invariant.gap c.is_blank_char-is_blank.ensures in
    let more : at + 1 ≡ length (c.loop-place.yielded ++ (c.in-Some.place, c.in-Some.character) ∷ []) = sym (length_push c.loop-place.yielded (c.in-Some.place, c.in-Some.character)) in
    let so_far = c.loop-place.invariant.places in
    record {
      places =
          elim c.if-after_gap-is_blank.branch [
            | then-after_gap-is_blank+in_ok-push w ↦
                ap (λ (v : Vec ℕ Global). v.items) w.places-is ∙ w.in_ok-push.ensures.items ∙ place_added (begins_wide cs) at c.in-Some.place c.loop-place.places.items (now ∙ w.if-after_gap-is_blank.true) place so_far
            | else-after_gap-is_blank w ↦
                ap (λ (v : Vec ℕ Global). v.items) w.places-is ∙ place_passed (begins_wide cs) at c.loop-place.places.items (now ∙ w.if-after_gap-is_blank.false) so_far
          ]
          ∙ ap (λ n. filter (begins_wide cs) (range_with_len 0 n)) more;
      blank = c.is_blank_char-is_blank.ensures ∙ last_one cs at c.in-Some.character inside character ∙ ap (λ n. list_all is_blank (drop (n - 1) (take n cs))) more;
      gap =
          ap (λ b. c.loop-place.after_blank && b) c.is_blank_char-is_blank.ensures
          ∙ last_two cs at c.in-Some.character c.loop-place.after_blank inside character c.loop-place.invariant.blank
          ∙ ap (λ n. list_all is_blank (drop (n - 2) (take n cs))) more;
    }

pub returns : goal.returns
returns c =
    let cs = chars c.args.line.now in
    let all = YieldsList-end (YieldsList-from_enumerate (YieldsList-from_chars c.args.line.now c.utf8.line (cc)) (cc)) c.loop-place.yielded _ c.loop-place.yielded_by _ _ c.in-None.is c.next.ensures.steps in
    let count : length c.loop-place.yielded ≡ length cs = all.1 ∙ length-enumerate_from 0 cs in
    c.loop-place.invariant.places ∙ ap (λ n. filter (begins_wide cs) (range_with_len 0 n)) count
