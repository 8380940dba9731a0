use Rattle.ledger.proofs.Worked.{a_long_life, without_slots, without_places, without_capacity, broken_off}
use Rattle.ledger.proofs.worked_lives.Goals as goal

pub returns : goal.returns
returns c = record { long = a_long_life; slots = without_slots; places = without_places; capacity = without_capacity; broken = broken_off }
