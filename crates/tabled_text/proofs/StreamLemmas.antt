-- A character many times, as it is written to a stream.
use Rattle.std.proofs.Common.{◌≡◌, ℕ, zero, suc, ◌+◌, ◌*◌, ◌≤◌, Option, Some, None, List, ◌++◌, length, length-append, encode_utf8, sym, ap, subst, ◌∙◌, arith}
use Rattle.std.specs.Io.KnownBytes.{Appends, Keeps}
use Rattle.std.proofs.lemmas.Str.{len_utf8_bounds, length-encode}
use Rattle.tabled_width.specs.Texts.{times}
use Rattle.tabled_width.proofs.TimesLemmas.{times_both}
use Rattle.tabled_text.specs.declared.stream.Stream.{Stream}
use Rattle.tabled_text.specs.Streams.{KeepsStream, StreamGains, held, stream_both}

-- what was gained before all that waits is written, is gained
then_stays : (a b c : Option (List ℕ)) (bytes : List ℕ) → Appends a b bytes → Keeps b c → Appends a c bytes
then_stays None b c bytes p q = tt
then_stays (Some x) None c bytes p q = absurd p
then_stays (Some x) (Some y) None bytes p q = absurd q
then_stays (Some x) (Some y) (Some z) bytes p q = q ∙ p

pub then_kept : {W : Type 0} (contents : W → Option (List ℕ)) (bytes : List ℕ) (old between new : Stream W) → StreamGains contents bytes old between → KeepsStream contents between new → StreamGains contents bytes old new
then_kept contents bytes old between new p q = record {
  same_writer = q.same_writer ∙ p.same_writer;
  gained = λ good.
      let later = q.kept good in
      let sooner = p.gained later.0 in (sooner.0, then_stays (held contents old) (held contents between) (held contents new) bytes sooner.1 later.1);
}

-- a character takes four bytes at most
pub encode_fits : (character : ℕ) → length (encode_utf8 character) ≤ 4
encode_fits character = subst (λ n. n ≤ 4) (sym (length-encode character)) (len_utf8_bounds character).1

-- and many of them as often as many
pub times_fit : (count character : ℕ) → length (times count character) ≤ 4 * count
times_fit zero character = omega arith
times_fit (suc count) character = omega (arith, length-append (encode_utf8 character) (times count character), encode_fits character, times_fit count character)

-- more are written after some
module _ {W : Type 0} (contents : W → Option (List ℕ)) where
  pub more_gained : (some more all character : ℕ) (bytes : List ℕ) (old between new : Stream W) → some + more ≡ all → bytes ≡ times more character
      → StreamGains contents (times some character) old between → StreamGains contents bytes between new → StreamGains contents (times all character) old new
  more_gained some more all character bytes old between new whole is p q =
      subst (λ bs. StreamGains contents bs old new) (ap (λ bs. times some character ++ bs) is ∙ sym (times_both some more character) ∙ ap (λ n. times n character) whole)
      (stream_both contents (times some character) bytes old between new p q)
