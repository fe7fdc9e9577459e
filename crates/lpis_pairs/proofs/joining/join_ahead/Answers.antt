use Rattle.std.proofs.Common.{◌≡◌, ℕ, ◌-◌, ◌<◌, ◌≤◌, Bool, true, false, ◌||◌, List, length, map, get_or, sym, ◌∙◌, arith, slice_get}
use Rattle.lpis_pairs.proofs.Common.{Triangle, Event, Extent}
use Rattle.std.proofs.lemmas.Option.{slice_get-get_or}
use Rattle.lpis_pairs.specs.private.Sweeping.{AreEvents, Joins, width_of}
use Rattle.lpis_pairs.proofs.JoinedLemmas.{grows_by_nothing, joined_next, joins_read, found_all, found_to_end}
use Rattle.lpis_pairs.proofs.ReadLemmas.{within_mapped, within_unmapped}
use Rattle.lpis_pairs.proofs.NearnessLemmas.{width_read}
use Rattle.lpis_pairs.proofs.joining.join_ahead.Goals.{then-one_starts+in_ok-take_near, else-one_starts}
use Rattle.lpis_pairs.proofs.joining.join_ahead.Goals as goal

-- what the code reads past the end of the events, and of the boxes
none : Event
none = record { key = 0; index = 0; starts = false }

no_box : Extent
no_box = record { left = 0; bottom = 0; right = 0; top = 0 }

-- the number of an event is one of a triangle
within : (ts : List Triangle) (es : List Event) (k : ℕ) (d : Event) → AreEvents (length ts) es → k < length es → (get_or es k d).index < length ts
within ts es k d h l = h k d l

unequal : (a r : Bool) → r ≡ a → r ≡ false → a ≡ true → ⊥
unequal a r e f g = cc

ended : (n v w : ℕ) → v ≡ w → w ≤ n → n < v → ⊥
ended n v w e l m = omega arith

pub take_near-requires-clause-second : goal.take_near-requires-clause-second
unfolding none
take_near-requires-clause-second g c =
    let f = g.T.HasTriangle.triangle in
    within_unmapped f c.args.triangles.now _ (within (map f c.args.triangles.now) c.args.events.now c.loop-m.m none c.requires.swept.events c.loop-m-test.true)

pub returns-then-second-first : goal.returns-then-second-first
unfolding none no_box
returns-then-second-first g c = λ ps h.
    let es = c.args.events.now in
    let m = c.loop-m.m in
    let ts = map g.T.HasTriangle.triangle c.args.triangles.now in
    let e = c.args.first.now in
    let f = get_or es m none in
    let x = c.loop-m.invariant ps h in
    let at_f = slice_get-get_or es m none c.loop-m-test.true in
    let wide : width_of (slice_get ts e.index) ≡ c.width-wide.result =
    width_read ts c.args.extents.now e.index no_box c.requires.extents (within_mapped g.T.HasTriangle.triangle c.args.triangles.now e.index c.requires.within) ∙ sym c.width-wide.ensures in (
      x.0,
      x.1,
      x.2.grows,
      found_all ts e es ps x.0 c.args.from m f c.requires.swept.order (c.requires.behind m f (omega (arith, c.loop-m.auto.m)) at_f)
          at_f (λ l. ended (f.key - e.key) _ c.width-wide.result wide c.if-second-first.true l) x.2,
    )

pub loop-m-preserved : goal.loop-m-preserved
unfolding none
loop-m-preserved g c = λ ps h.
    let ts = map g.T.HasTriangle.triangle c.args.triangles.now in
    let es = c.args.events.now in
    let from = c.args.from in
    let m = c.loop-m.m in
    let e = c.args.first.now in
    let f = get_or es m none in
    let at_f = slice_get-get_or es m none c.loop-m-test.true in
    let x = c.loop-m.invariant ps h in
    elim c.if-one_starts.branch [
      | then-one_starts+in_ok-take_near w ↦
          let y = w.in_ok-take_near.ensures x.0 x.1 in
          let j : Joins ts e es y.0 m = joins_read ts e es y.0 m f at_f (λ l o. y.3) in
          rw w.taker-is (y.0, y.1, joined_next ts e es ps x.0 y.0 from m x.2 y.2 j)
      | else-one_starts w ↦
          let j : Joins ts e es x.0 m = joins_read ts e es x.0 m f at_f
          (λ l o. absurd (unequal (e.starts || f.starts) c.one_starts.result c.one_starts.ensures w.if-one_starts.false o)) in
          rw w.taker-is (x.0, x.1, joined_next ts e es ps x.0 x.0 from m x.2 (grows_by_nothing ts x.0) j)
    ]

pub returns : goal.returns
returns g c = λ ps h.
    let x = c.loop-m.invariant ps h in
    (x.0, x.1, x.2.grows, found_to_end (map g.T.HasTriangle.triangle c.args.triangles.now) c.args.first.now c.args.events.now ps x.0 c.args.from c.loop-m.m c.loop-m-test.false x.2)
