use Rattle.std.proofs.Common.{ap}
use Rattle.q_prop.specs.Pieces.{bounds_of}
use Rattle.q_prop.proofs.clauses.carry.Goals as goal

pub slice_bounds-append-count : goal.slice_bounds-append-count
slice_bounds-append-count c = (c.requires c.in-Short.start c.in-Short.end (ap bounds_of c.in-Short.is)).0

pub slice_bounds-append-start : goal.slice_bounds-append-start
slice_bounds-append-start c = (c.requires c.in-Short.start c.in-Short.end (ap bounds_of c.in-Short.is)).0

pub slice_bounds-append-end : goal.slice_bounds-append-end
slice_bounds-append-end c = (c.requires c.in-Short.start c.in-Short.end (ap bounds_of c.in-Short.is)).1

pub slice_bounds-append-count-in-Long : goal.slice_bounds-append-count-in-Long
slice_bounds-append-count-in-Long c = (c.requires c.in-Long.start c.in-Long.end (ap bounds_of c.in-Long.is)).0

pub slice_bounds-append-start-in-Long : goal.slice_bounds-append-start-in-Long
slice_bounds-append-start-in-Long c = (c.requires c.in-Long.start c.in-Long.end (ap bounds_of c.in-Long.is)).0

pub slice_bounds-append-end-in-Long : goal.slice_bounds-append-end-in-Long
slice_bounds-append-end-in-Long c = (c.requires c.in-Long.start c.in-Long.end (ap bounds_of c.in-Long.is)).1
