-- A stream with what waits to be written to it.
use Rattle.std.specs.Prelude.{◌≡◌, ℕ, false, Option, List, [], ◌++◌, string_bytes}
use Rattle.std.specs.Io.KnownBytes.{Appends, Keeps, append_known}
use Rattle.std.proofs.KnownBytes.{Appends-nil, Appends-trans}
use Rattle.std.proofs.Common.{None, Some, refl, ap, subst, ◌∙◌}
use Rattle.std.proofs.lemmas.List.{append-nil}
use Rattle.tabled_text.specs.declared.stream.Stream.{Stream}

module _ {W : Type 0} (contents : W → Option (List ℕ)) where
  -- what the writer has, and after that what waits, where it is known what the writer has
  abbrev pub held : Stream W → Option (List ℕ)
  held stream = append_known (contents stream.out.now) (string_bytes stream.waiting.now)

  -- the same writer, with the same bytes, unless it has failed
  pub record KeepsStream (old new : Stream W) : Type 0 where
    pub same_writer : new.out.ghost_name ≡ old.out.ghost_name
    pub kept : new.has_failed ≡ false → (old.has_failed ≡ false) × Keeps (held old) (held new)

  -- the same writer, with these bytes more, unless it has failed
  pub record StreamGains (bytes : List ℕ) (old new : Stream W) : Type 0 where
    pub same_writer : new.out.ghost_name ≡ old.out.ghost_name
    pub gained : new.has_failed ≡ false → (old.has_failed ≡ false) × Appends (held old) (held new) bytes

  pub stream_none : (stream : Stream W) → StreamGains [] stream stream
  stream_none stream = record { same_writer = refl; gained = λ good. (good, Appends-nil (held stream)) }

  pub stream_both : (xs ys : List ℕ) (old between new : Stream W) → StreamGains xs old between → StreamGains ys between new → StreamGains (xs ++ ys) old new
  stream_both xs ys old between new p q = record {
    same_writer = q.same_writer ∙ p.same_writer;
    gained = λ good.
        let later = q.gained good in
        let sooner = p.gained later.0 in (sooner.0, Appends-trans (held old) (held between) (held new) xs ys sooner.1 later.1);
  }

  -- what is gained by a stream for which nothing waits, before and after, is gained by its writer
  pub writer_gains : (bytes : List ℕ) (old new : Stream W) (writer : W) → new.out.now ≡ writer → string_bytes old.waiting.now ≡ [] → string_bytes new.waiting.now ≡ [] → StreamGains bytes old new → new.has_failed ≡ false
      → Appends (contents old.out.now) (contents writer) bytes
  writer_gains bytes old new writer same before after gains good =
      subst (λ known. Appends (contents old.out.now) known bytes) (nothing_waits new after ∙ ap contents same)
      (subst (λ known. Appends known (held new) bytes) (nothing_waits old before) (gains.gained good).1)
    where
      none_more : (known : Option (List ℕ)) → append_known known [] ≡ known
      none_more None = refl
      none_more (Some bs) = ap Some (append-nil bs)

      nothing_waits : (stream : Stream W) → string_bytes stream.waiting.now ≡ [] → held stream ≡ contents stream.out.now
      nothing_waits stream none = ap (append_known (contents stream.out.now)) none ∙ none_more (contents stream.out.now)
