pub mod TextOrder
