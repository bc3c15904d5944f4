pub mod BallAndRooms
pub mod Lending
