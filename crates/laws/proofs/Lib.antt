-- A term for each statement of specs/, and closed instances of them.
pub mod BackLaws
pub mod RoomLaws
pub mod Proved
pub mod Instances
