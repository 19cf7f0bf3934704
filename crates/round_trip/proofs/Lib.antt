-- Laws of the round trip.
mod TripLaws
