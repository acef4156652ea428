-- Lists of ids: what is in one, that none stands twice, and the list without one.
pub use Rattle.q_arena.specs.Rings.{Has, Misses, AreApart, without}
