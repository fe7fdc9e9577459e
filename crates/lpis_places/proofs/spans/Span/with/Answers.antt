use Rattle.lpis_places.proofs.SpanLemmas.{from_left, le_then, to_right}
use Rattle.lpis_places.proofs.spans.Span.with.Goals as goal

pub returns-clause-has : goal.returns-clause-has
returns-clause-has c = record {
  left = from_left c.mixed.result.x c.lefter.result.x c.args.spot.x c.mixed.ensures.x c.lefter.ensures.1;
  low = from_left c.mixed.result.y c.lower.result.y c.args.spot.y c.mixed.ensures.y c.lower.ensures.1;
  right = to_right c.mixed-2.result.x c.righter.result.x c.args.spot.x c.mixed-2.ensures.x c.righter.ensures.1;
  high = to_right c.mixed-2.result.y c.higher.result.y c.args.spot.y c.mixed-2.ensures.y c.higher.ensures.1;
}

pub returns-clause-keeps : goal.returns-clause-keeps
returns-clause-keeps c = λ s h. record {
  left = le_then c.mixed.result.x c.args.self.low.x s.x (from_left c.mixed.result.x c.lefter.result.x c.args.self.low.x c.mixed.ensures.x c.lefter.ensures.0) h.left;
  low = le_then c.mixed.result.y c.args.self.low.y s.y (from_left c.mixed.result.y c.lower.result.y c.args.self.low.y c.mixed.ensures.y c.lower.ensures.0) h.low;
  right = le_then s.x c.args.self.high.x c.mixed-2.result.x h.right (to_right c.mixed-2.result.x c.righter.result.x c.args.self.high.x c.mixed-2.ensures.x c.righter.ensures.0);
  high = le_then s.y c.args.self.high.y c.mixed-2.result.y h.high (to_right c.mixed-2.result.y c.higher.result.y c.args.self.high.y c.mixed-2.ensures.y c.higher.ensures.0);
}
