use Rattle.std.proofs.Common.{◌∙◌}
use Rattle.q_arena.proofs.rings.link_owned.Goals as goal

pub returns : goal.returns
returns c = record {
  mid = c.link_front.new.places.items;
  lists = c.link_front.ensures.lists;
  tagged = c.write_tag.ensures.tagged;
  long = c.write_tag.ensures.places;
  alike = record {
    places = c.write_tag.ensures.none ∙ c.link_front.ensures.blanks.places;
    heads = c.link_front.ensures.blanks.heads;
    full_places = c.write_tag.ensures.full ∙ c.link_front.ensures.blanks.full_places;
    full_heads = c.link_front.ensures.blanks.full_heads;
  };
}
