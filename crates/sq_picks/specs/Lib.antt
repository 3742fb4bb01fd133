pub mod OrderList
