pub mod AlarmTurns
pub mod GroupTargets
pub mod BlockedPlaces
pub mod ReversedLists
pub mod TurnParts
