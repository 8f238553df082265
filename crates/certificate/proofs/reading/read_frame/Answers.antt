-- Each return says which of the four questions is the first that fails.
use Rattle.std.proofs.Common.{sym, ◌∙◌, le-leb, eq-eqb, ne_eqb, ap, not}
use borrow.Author.Tests.{lt-leb, not-true, not-false}
use Rattle.forms.specs.Answers.{ask}
use Rattle.certificate.specs.ReadRecords.{frame_asked}
use Rattle.certificate.proofs.reading.read_frame.Goals as goal

pub returns-then-s-start : goal.returns-then-s-start
unfolding frame_asked ask
returns-then-s-start c = simp (lt-leb _ _ c.if-s-start.true) c.refused-short.ensures

pub returns-then-not-is_marked : goal.returns-then-not-is_marked
unfolding frame_asked ask
returns-then-not-is_marked c =
    simp (le-leb _ _ c.if-s-start.false, sym c.is_marked.ensures ∙ not-true c.is_marked.result (ap not c.if-not-is_marked.true)) c.refused.ensures

pub returns-then-stated_length-size : goal.returns-then-stated_length-size
unfolding frame_asked ask
returns-then-stated_length-size c =
    simp (
      le-leb _ _ c.if-s-start.false,
      sym c.is_marked.ensures ∙ not-false c.is_marked.result (ap not c.if-not-is_marked.false),
      ne_eqb _ _ (λ e. c.if-stated_length-size.true (c.stated_length.ensures ∙ e)),
    ) c.refused-then-stated_length-size.ensures

pub returns-then-s-start-2 : goal.returns-then-s-start-2
unfolding frame_asked ask
returns-then-s-start-2 c =
    simp (
      le-leb _ _ c.if-s-start.false,
      sym c.is_marked.ensures ∙ not-false c.is_marked.result (ap not c.if-not-is_marked.false),
      eq-eqb _ _ (sym c.stated_length.ensures ∙ c.if-stated_length-size.false),
      lt-leb _ _ c.if-s-start-2.true,
    ) c.refused-short.ensures

pub returns : goal.returns
unfolding frame_asked ask
returns c =
    simp (
      le-leb _ _ c.if-s-start.false,
      sym c.is_marked.ensures ∙ not-false c.is_marked.result (ap not c.if-not-is_marked.false),
      eq-eqb _ _ (sym c.stated_length.ensures ∙ c.if-stated_length-size.false),
      le-leb _ _ c.if-s-start-2.false,
    )
