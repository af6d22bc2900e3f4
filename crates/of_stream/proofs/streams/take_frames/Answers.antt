use Rattle.std.proofs.Common.{List, ℕ, sym, ap, ◌∙◌, subst}
use Rattle.std.specs.Prelude.{All}
use Rattle.std.proofs.lemmas.List.Elements.{All-push}
use Rattle.of_stream.specs.Frames.{IsFrame, stream_of}
use Rattle.of_stream.specs.laws.FrameLaws.{stream_of-push}
use Rattle.of_stream.proofs.streams.take_frames.Goals as goal

pub loop-frame-preserved : goal.loop-frame-preserved
loop-frame-preserved c =
    let frames = c.loop-frame.frames.items in
    let frame = c.in-Ok-Some.frame in
    let left = c.next.new.self in
    let pushed = c.in_ok-push-in-Ok-Some.ensures.items in
    let found = rw c.in-Ok-Some.field-0-is at c.in-Ok-Some.ensures.frame in
    record {
      stream = ap (λ (xs : List (List ℕ)). stream_of xs left) pushed ∙ stream_of-push frames frame left ∙ ap (stream_of frames) (sym found.1) ∙ c.loop-frame.invariant.stream;
      each = λ all. subst (λ (xs : List (List ℕ)). All IsFrame xs) (sym pushed) (All-push IsFrame frames frame (c.loop-frame.invariant.each all) found.0);
    }
