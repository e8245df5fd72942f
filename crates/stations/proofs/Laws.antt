-- The laws of sets of stations hold.
use Rattle.stations.specs.Laws.{SetLaws}
use Rattle.stations.proofs.Members.{contains_none, contains_new, contains_old, within_more, contains_set, within_set, same_members}

pub set_laws : SetLaws
set_laws = record {
  contains_none = contains_none;
  contains_new = contains_new;
  contains_old = contains_old;
  within_more = within_more;
  contains_set = contains_set;
  within_set = within_set;
  same_members = same_members;
}
